-- What stays where members are added to an adt: the rows of the adts that were there, and the scopes around.
use Rattle.std.proofs.Common.{◌≡◌, ◌<◌, ◌≤◌, ◌+◌, ◌++◌, ◌∷◌, [], ℕ, zero, suc, Bool, List, Option, Some, None, length, take}
use Rattle.std.proofs.Common.{refl, sym, ap, subst, ◌∙◌, arith}
use Rattle.std.specs.Prelude.{slice_get}
use Rattle.limbo_tree.specs.Exprs as tree
use Rattle.limbo_tree.specs.Decls as decls
use Rattle.limbo_tree.specs.Decls.{Member, VarMember, FnMember, ConMember, TypeMember, AdtMember, Members, NoMembers, MoreMembers}
use Rattle.limbo_scope.specs.declared.meaning.Meaning.{Meaning}
use Rattle.limbo_scope.specs.declared.meaning.Meaning.TheVariants as meaning
use Rattle.limbo_scope.specs.Scopes.{Scope, seen, entered, declared, left}
use Rattle.limbo_scope.specs.Laws.{declared_all}
use Rattle.limbo_context.specs.Context.{Context, Valued}
use Rattle.limbo_locals.specs.limbo_local.Points.{Point, with_body, meaning_from}
use Rattle.limbo_locals.specs.limbo_local.Local.{iota, counting, seeing, seen_behind, IsConstant, AreConstants}
use Rattle.limbo_locals.specs.limbo_local.Members.{Inside, changed, showing_adt, variants_in, open_adt, AddsToAdt, AllAddToAdt}
use Rattle.limbo_locals.specs.limbo_typing.Typing.{HasValue}
use Rattle.limbo_locals.proofs.Growing.{value_grows, declared_further, back}

-- ---- lists

length_declared : (ds : List (List ℕ × Meaning)) (ss : List Scope) → length (declared_all ds ss) ≡ length ss
length_declared [] ss = refl
length_declared (d ∷ ds) [] = length_declared ds []
length_declared (d ∷ ds) (s ∷ ss) = length_declared ds (declared d.0 d.1 (s ∷ ss))

pub changed_other : {A : Type 0} (a : ℕ) (f : A → A) (xs : List A) (i : ℕ) → (i ≡ a → ⊥) → slice_get (changed a f xs) i ≡ slice_get xs i
changed_other a f [] i n = refl
changed_other zero f (x ∷ xs) zero n = absurd (n refl)
changed_other zero f (x ∷ xs) (suc i) n = refl
changed_other (suc a) f (x ∷ xs) zero n = refl
changed_other (suc a) f (x ∷ xs) (suc i) n = changed_other a f xs i (λ e. n (ap suc e))

pub changed_there : {A : Type 0} (a : ℕ) (f : A → A) (xs : List A) (x : A) → slice_get xs a ≡ Some x
    → slice_get (changed a f xs) a ≡ Some (f x)
changed_there a f [] x h = absurd cc
changed_there zero f (y ∷ ys) x h = let e : y ≡ x = cc in ap (λ z. Some (f z)) e
changed_there (suc a) f (y ∷ ys) x h = changed_there a f ys x h

pub changed_same : {A : Type 0} (a : ℕ) (y : A) (xs : List A) → slice_get xs a ≡ Some y → changed a (λ x. y) xs ≡ xs
changed_same a y [] h = refl
changed_same zero y (x ∷ xs) h = let e : x ≡ y = cc in ap (λ z. z ∷ xs) (sym e)
changed_same (suc a) y (x ∷ xs) h = ap (λ z. x ∷ z) (changed_same a y xs h)

pub length_changed : {A : Type 0} (a : ℕ) (f : A → A) (xs : List A) → length (changed a f xs) ≡ length xs
length_changed a f [] = refl
length_changed zero f (x ∷ xs) = refl
length_changed (suc a) f (x ∷ xs) = ap suc (length_changed a f xs)

front_of : {A : Type 0} (xs : List A) (y : A) (i : ℕ) → i < length xs → slice_get (xs ++ y ∷ []) i ≡ slice_get xs i
front_of [] y i l = absurd (omega arith)
front_of (x ∷ xs) y zero l = refl
front_of (x ∷ xs) y (suc i) l = front_of xs y i (omega arith)

pub one_longer : {A : Type 0} (xs : List A) (y : A) → length (xs ++ y ∷ []) ≡ length xs + 1
one_longer [] y = refl
one_longer (x ∷ xs) y = let r : length (xs ++ y ∷ []) ≡ length xs + 1 = one_longer xs y in omega arith

-- ---- constants

-- Only the scopes change, the innermost.
pub record Grows (p q : Point) : Type 0 where
  pub context : q.context ≡ p.context
  pub names : List (List ℕ × Meaning)
  pub scopes : q.body.scopes ≡ declared_all names p.body.scopes

constant_grows : (p q : Point) (e : tree.Expr) (k : ℕ) (v : Valued) → 0 < length p.body.scopes → IsConstant p e k v q → Grows p q
constant_grows p q e k v l h = by (seen iota p.body.scopes) h.has h.goes_on
  where
    by : (o : Option Meaning) → HasValue (counting k p.context) (seeing o p.context p.body) e h.value h.behind
        → q ≡ with_body (seen_behind o h.behind) p → Grows p q
    by (Some m) has g =
        let w = value_grows (counting k p.context) p.body e h.value h.behind has in
        record {
          context = ap (λ (z : Point). z.context) g;
          names = w.names;
          scopes = ap (λ (z : Point). z.body.scopes) g ∙ w.scopes;
        }
    by None has g =
        let w = value_grows (counting k p.context) (seeing None p.context p.body) e h.value h.behind has in
        record {
          context = ap (λ (z : Point). z.context) g;
          names = [];
          scopes =
              ap (λ (z : Point). z.body.scopes) g ∙ ap left w.scopes
              ∙ back ((iota, meaning.Constant (length p.context.constants)) ∷ w.names) p.body.scopes l;
        }

constants_grow : (e : tree.Expr) (k : ℕ) (ns : List (List ℕ)) (vs : List Valued) (p q : Point) → 0 < length p.body.scopes
    → AreConstants e k ns vs p q → Grows p q
constants_grow e k [] [] p q l h = record {
  context = ap (λ (z : Point). z.context) h;
  names = [];
  scopes = ap (λ (z : Point). z.body.scopes) h;
}
constants_grow e k [] (v ∷ vs) p q l h = absurd h
constants_grow e k (n ∷ ns) [] p q l h = absurd h
constants_grow e k (n ∷ ns) (v ∷ vs) p q l h =
    let g = constant_grows p h.0 e k v l h.1 in
    let m : length h.0.body.scopes ≡ length p.body.scopes = ap length g.scopes ∙ length_declared g.names p.body.scopes in
    let i = constants_grow e (suc k) ns vs h.0 q (omega arith) h.2 in
    record {
      context = i.context ∙ g.context;
      names = g.names ++ i.names;
      scopes = i.scopes ∙ ap (declared_all i.names) g.scopes ∙ sym (declared_further g.names i.names p.body.scopes);
    }

-- ---- members

-- The rows that were there stay, but for those that are left out; the scopes around do, and each adt keeps its row.
pub record Stays (other : ℕ → Type 0) (p q : Point) : Type 0 where
  pub names : List (List ℕ × Meaning)
  pub scopes : q.body.scopes ≡ declared_all names p.body.scopes
  pub even : length q.context.members ≡ length q.context.adts
  pub longer : length p.context.members ≤ length q.context.members
  pub rows : (i : ℕ) → i < length p.context.members → other i → slice_get q.context.members i ≡ slice_get p.context.members i

abbrev IsEven : Point → Type 0
IsEven p = length p.context.members ≡ length p.context.adts

stays_same : (other : ℕ → Type 0) (p q : Point) → IsEven p → q ≡ p → Stays other p q
stays_same other p q even is = record {
  names = [];
  scopes = ap (λ (z : Point). z.body.scopes) is;
  even = subst (λ (z : Point). IsEven z) (sym is) even;
  longer = subst (λ (z : Point). length p.context.members ≤ length z.context.members) (sym is) (omega arith);
  rows = λ i l o. ap (λ (z : Point). slice_get z.context.members i) is;
}

mutual
  pub stays_member : (m : Bool) (x : Member) (p : Point) (g : Inside) (q : Point) → 0 < length p.body.scopes
      → length p.context.members ≡ length p.context.adts → AddsToAdt m x p g q → Stays (λ i. Unit {0}) p q
  stays_member m (VarMember ns t) p g q l even h = stays_same (λ i. Unit {0}) p q even h.3
  stays_member m (FnMember ns f) p g q l even h = stays_same (λ i. Unit {0}) p q even h.4
  stays_member m (ConMember ns e) p g q l even h =
      let w = constants_grow e 0 ns h.0 p h.1 l h.2 in
      record {
        names = w.names ++ meaning_from meaning.Constant (length h.1.context.constants) ns;
        scopes =
            ap (λ (z : Point). z.body.scopes) h.4
            ∙ ap (declared_all (meaning_from meaning.Constant (length h.1.context.constants) ns)) w.scopes
            ∙ sym (declared_further w.names (meaning_from meaning.Constant (length h.1.context.constants) ns) p.body.scopes);
        even =
            ap (λ (z : Point). length z.context.members) h.4 ∙ ap (λ (z : Context). length z.members) w.context ∙ even
            ∙ sym (ap (λ (z : Context). length z.adts) w.context) ∙ sym (ap (λ (z : Point). length z.context.adts) h.4);
        longer =
            let s : length q.context.members ≡ length p.context.members =
            ap (λ (z : Point). length z.context.members) h.4 ∙ ap (λ (z : Context). length z.members) w.context in omega arith;
        rows = λ i b o. ap (λ (z : Point). slice_get z.context.members i) h.4 ∙ ap (λ (z : Context). slice_get z.members i) w.context;
      }
  stays_member m (TypeMember ns t) p g q l even h = record {
    names = meaning_from meaning.Type (length p.context.types) ns;
    scopes = ap (λ (z : Point). z.body.scopes) h.3;
    even =
        ap (λ (z : Point). length z.context.members) h.3 ∙ even ∙ sym (ap (λ (z : Point). length z.context.adts) h.3);
    longer =
        let s : length q.context.members ≡ length p.context.members = ap (λ (z : Point). length z.context.members) h.3 in omega arith;
    rows = λ i b o. ap (λ (z : Point). slice_get z.context.members i) h.3;
  }
  stays_member m (AdtMember n ms pick) p g q l even h =
      let begun = open_adt n (variants_in pick) p in
      let there : length begun.context.members ≡ length p.context.members + 1 = one_longer p.context.members (entered []) in
      let and_there : length begun.context.adts ≡ length p.context.adts + 1 = one_longer p.context.adts _ in
      let both : length begun.context.members ≡ length begun.context.adts = omega arith in
      let s = stays_all m (length p.context.adts) ms begun h.0 h.2 (omega arith) both h.3 in
      let d = declared n (meaning.Adt (length p.context.adts)) p.body.scopes in
      let deep : length d ≡ length p.body.scopes = length_declared ((n, meaning.Adt (length p.context.adts)) ∷ []) p.body.scopes in
      let around : 0 < length d = omega arith in
      record {
        names = (n, meaning.Adt (length p.context.adts)) ∷ [];
        scopes = ap (λ (z : Point). z.body.scopes) h.6 ∙ ap left s.scopes ∙ back s.names d around;
        even = ap (λ (z : Point). length z.context.members) h.6 ∙ s.even ∙ sym (ap (λ (z : Point). length z.context.adts) h.6);
        longer =
            let e : length q.context.members ≡ length h.2.context.members = ap (λ (z : Point). length z.context.members) h.6 in
            let r : length begun.context.members ≤ length h.2.context.members = s.longer in omega arith;
        rows = λ i b o.
            ap (λ (z : Point). slice_get z.context.members i) h.6
            ∙ s.rows i (omega arith) (λ e. let x : i ≡ length p.context.adts = e in omega arith)
            ∙ front_of p.context.members (entered []) i b;
      }

  pub stays_all : (m : Bool) (a : ℕ) (ms : Members) (p : Point) (g : Inside) (q : Point) → 0 < length p.body.scopes
      → length p.context.members ≡ length p.context.adts → AllAddToAdt m a ms p g q → Stays (λ i. i ≡ a → ⊥) p q
  stays_all m a NoMembers p g q l even h = stays_same (λ i. i ≡ a → ⊥) p q even h.1
  stays_all m a (MoreMembers x xs) p g q l even h =
      let s = stays_member m x p h.0 h.2 l even h.3 in
      let deep : length h.2.body.scopes ≡ length p.body.scopes = ap length s.scopes ∙ length_declared s.names p.body.scopes in
      let same : length (showing_adt a h.2).context.members ≡ length h.2.context.members =
      length_changed a (λ row. take 1 h.2.body.scopes) h.2.context.members in
      let t = stays_all m a xs (showing_adt a h.2) h.1 q (omega arith) (same ∙ s.even) h.4 in
      let further : length p.context.members ≤ length h.2.context.members = s.longer in
      let and_further : length (showing_adt a h.2).context.members ≤ length q.context.members = t.longer in
      record {
        names = s.names ++ t.names;
        scopes = t.scopes ∙ ap (declared_all t.names) s.scopes ∙ sym (declared_further s.names t.names p.body.scopes);
        even = t.even;
        longer = omega arith;
        rows = λ i b o.
            t.rows i (omega arith) o ∙ changed_other a (λ row. take 1 h.2.body.scopes) h.2.context.members i o ∙ s.rows i b tt;
      }

-- An adt leaves its name alone in the innermost scope.
pub adt_scopes : (m : Bool) (n : List ℕ) (ms : Members) (pick : Option (List decls.Variant)) (p : Point) (g : Inside) (q : Point)
    → 0 < length p.body.scopes → length p.context.members ≡ length p.context.adts → AddsToAdt m (AdtMember n ms pick) p g q
    → q.body.scopes ≡ declared n (meaning.Adt (length p.context.adts)) p.body.scopes
adt_scopes m n ms pick p g q l even h =
    let begun = open_adt n (variants_in pick) p in
    let there : length begun.context.members ≡ length p.context.members + 1 = one_longer p.context.members (entered []) in
    let and_there : length begun.context.adts ≡ length p.context.adts + 1 = one_longer p.context.adts _ in
    let both : length begun.context.members ≡ length begun.context.adts = omega arith in
    let s = stays_all m (length p.context.adts) ms begun h.0 h.2 (omega arith) both h.3 in
    let d = declared n (meaning.Adt (length p.context.adts)) p.body.scopes in
    let deep : length d ≡ length p.body.scopes = length_declared ((n, meaning.Adt (length p.context.adts)) ∷ []) p.body.scopes in
    let around : 0 < length d = omega arith in
    ap (λ (z : Point). z.body.scopes) h.6 ∙ ap left s.scopes ∙ back s.names d around
