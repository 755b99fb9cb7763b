-- Declarations that lead through one another.
use Rattle.std.proofs.Common.{◌≡◌, ℕ, zero, suc, ◌<◌, List, Option, None, Some, refl, subst, arith}
use Rattle.limbo_entries.specs.Entries.{Entry, IsEntry, Finds}
use Rattle.limbo_naming.specs.Qualified.{Qualified, Simple, Member, Part, row_stands_for}
use Rattle.limbo_naming.specs.Naming as naming
use Rattle.limbo_naming.specs.Naming.{Leads, Names, IsMemberOf, IsPartOf}
use Rattle.limbo_naming.specs.Depth.{depth, depth_in, GoesThrough, NamesThrough}

pub through : (es : List Entry) (m i j k : ℕ) → GoesThrough es m i j → GoesThrough es m j k → GoesThrough es m i k
through es m i j k a b r d = let x = a r d in let y = b x.0 x.1 in (y.0, y.1, let u = x.2 in let v = y.2 in omega arith)

round : (es : List Entry) (m j n : ℕ) → GoesThrough es m j j → (r : ℕ) (d : Leads es m j r) → depth d < n → ⊥
round es m j zero a r d l = absurd (omega arith)
round es m j (suc n) a r d l = let x = a r d in round es m j n a x.0 x.1 (let u = x.2 in omega arith)

-- who leads through itself leads nowhere
pub no_circle : (es : List Entry) (m j r : ℕ) → GoesThrough es m j j → Leads es m j r → ⊥
no_circle es m j r a d = round es m j (suc (depth d)) a r d (omega arith)

moved : (es : List Entry) (m : ℕ) (scope : Option ℕ) (p q : Qualified) (r : ℕ) → p ≡ q → (d : Names es m scope p r)
    → (c : Names es m scope q r) × (depth_in c ≡ depth_in d)
moved es m scope p q r w =
    subst (λ (u : Qualified). (d : Names es m scope p r) → (c : Names es m scope u r) × (depth_in c ≡ depth_in d)) w (λ d. (d, refl))

moved_out : (es : List Entry) (m : ℕ) (e f : Entry) (p : Qualified) (r : ℕ) → f ≡ e → (d : Names es m f.within p r)
    → (c : Names es m e.within p r) × (depth_in c ≡ depth_in d)
moved_out es m e f p r w =
    subst (λ (u : Entry). (d : Names es m f.within p r) → (c : Names es m u.within p r) × (depth_in c ≡ depth_in d)) w (λ d. (d, refl))

same_entry : (es : List Entry) (k : ℕ) (a b : Entry) → IsEntry es k a → IsEntry es k b → a ≡ b
same_entry es k a b f g = cc

-- A declaration leads through whatever the name leads through that it stands for.
pub leads_through : (es : List Entry) (m j k : ℕ) (e : Entry) (q : Qualified) → IsEntry es j e → row_stands_for e.row ≡ Some q
    → NamesThrough es m e.within q k → GoesThrough es m j k
leads_through es m _ k e q i n a _ (naming.itself j f g w) =
    let x : f ≡ e = same_entry es j f e g i in
    let y : row_stands_for e.row ≡ None = subst (λ (u : Entry). row_stands_for u.row ≡ None) x w in
    absurd cc
leads_through es m _ k e q i n a _ (naming.onward j r f p g w d) =
    let x : f ≡ e = same_entry es j f e g i in
    let y : row_stands_for e.row ≡ Some p = subst (λ (u : Entry). row_stands_for u.row ≡ Some p) x w in
    let c = moved_out es m e f p r x d in
    let h : p ≡ q = cc in
    let b = moved es m e.within p q r h c.0 in
    let z = a r b.0 in
    (z.0, z.1, let u = z.2 in let v = b.1 in let t = c.1 in omega arith)

-- ---- what a name leads through

led : (es : List Entry) (m j k r : ℕ) → j ≡ k → (d : Leads es m j r) → (t : ℕ) × (c : Leads es m k t) × (depth c < suc (depth d))
led es m j k r w = subst (λ (u : ℕ). (d : Leads es m j r) → (t : ℕ) × (c : Leads es m u t) × (depth c < suc (depth d))) w (λ d. (r, d, omega arith))

pub simple_through : (es : List Entry) (m : ℕ) (scope : Option ℕ) (name : List ℕ) (k : ℕ)
    → ((j : ℕ) → Finds es m name scope j → j ≡ k) → NamesThrough es m scope (Simple name) k
simple_through es m scope name k one _ (naming.simple s n j r f d) =
    let x : j ≡ k = one j f in
    led es m j k r x d

-- where what stands before the `->` leads through it
pub before_member : (es : List Entry) (m : ℕ) (scope : Option ℕ) (b : Qualified) (name : List ℕ) (k : ℕ)
    → NamesThrough es m scope b k → NamesThrough es m scope (Member b name) k
before_member es m scope b name k a _ (naming.member s q n o j r d w f) =
    let x = a o d in (x.0, x.1, let u = x.2 in omega arith)

pub before_part : (es : List Entry) (m : ℕ) (scope : Option ℕ) (b : Qualified) (name : List ℕ) (k : ℕ)
    → NamesThrough es m scope b k → NamesThrough es m scope (Part b name) k
before_part es m scope b name k a _ (naming.part s q n o j r d w f) =
    let x = a o d in (x.0, x.1, let u = x.2 in omega arith)

-- where it is the only member, or part, of that name
pub member_through : (es : List Entry) (m : ℕ) (scope : Option ℕ) (b : Qualified) (name : List ℕ) (k : ℕ)
    → ((o j : ℕ) → Names es m scope b o → IsMemberOf es o name j → j ≡ k) → NamesThrough es m scope (Member b name) k
member_through es m scope b name k one _ (naming.member s q n o j r d w f) =
    let x = led es m j k r (one o j d w) f in (x.0, x.1, let u = x.2 in omega arith)

pub part_through : (es : List Entry) (m : ℕ) (scope : Option ℕ) (b : Qualified) (name : List ℕ) (k : ℕ)
    → ((o j : ℕ) → Names es m scope b o → IsPartOf es o name j → j ≡ k) → NamesThrough es m scope (Part b name) k
part_through es m scope b name k one _ (naming.part s q n o j r d w f) =
    let x = led es m j k r (one o j d w) f in (x.0, x.1, let u = x.2 in omega arith)
