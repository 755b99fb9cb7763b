-- The laws of lists of things, from those of one thing.
use Rattle.std.proofs.Common.{◌≡◌, ℕ, zero, suc, ◌+◌, ◌≤◌, ◌<◌, Bool, true, false, cond, List, [], ◌∷◌, length, max, Option, Some, None, Result, Ok, Err, refl, sym, ap, subst, ◌∙◌, arith, inl, inr, ◌⊎◌}
use Rattle.std.specs.Prelude.{IfOk, if◌then◌else◌}
use Rattle.limbo_lexer.specs.declared.token.Kind.{Kind}
use Rattle.limbo_reading.specs.declared.fault.Fault.{Fault}
use Rattle.limbo_reading.specs.declared.fault.Fault.TheVariants.{Syntax, TooDeep}
use Rattle.limbo_reading.specs.Reading.{◌>>=◌, Reader, choose}
use Rattle.limbo_reading.specs.Lists.{others, items, until}
use Rattle.limbo_reading.proofs.Steps.{took_bind, took_choose, took_if, Deepens, deepens_same, deepens_bind, deepens_choose, deepens_if, Keeps, keeps_bind, keeps_choose, keeps_if, keeps_less}

-- ---- spelling

-- {separator item}, where the separator is one token
abbrev pub spell_others : {A : Type 0} → (A → List Kind → List Kind) → Kind → List A → List Kind → List Kind
spell_others spell k [] ts = ts
spell_others spell k (x ∷ xs) ts = k ∷ spell x (spell_others spell k xs ts)

-- {item}
abbrev pub spell_all : {A : Type 0} → (A → List Kind → List Kind) → List A → List Kind → List Kind
spell_all spell [] ts = ts
spell_all spell (x ∷ xs) ts = spell x (spell_all spell xs ts)

-- each is so
abbrev pub Each : {A : Type 0} → (A → Type 0) → List A → Type 0
Each P [] = Unit {0}
Each P (x ∷ xs) = P x × Each P xs

abbrev pub most : {A : Type 0} → (A → ℕ) → List A → ℕ
most nests [] = 0
most nests (x ∷ xs) = max (nests x) (most nests xs)

pub spell_others_length : {A : Type 0} (spell : A → List Kind → List Kind) (k : Kind) → ((x : A) (ts : List Kind) → length ts ≤ length (spell x ts)) → (xs : List A) (ts : List Kind) → length xs + length ts ≤ length (spell_others spell k xs ts)
spell_others_length spell k h [] ts = omega arith
spell_others_length spell k h (x ∷ xs) ts = omega (arith, h x (spell_others spell k xs ts), spell_others_length spell k h xs ts)

pub spell_all_length : {A : Type 0} (spell : A → List Kind → List Kind) → ((x : A) (ts : List Kind) → length ts < length (spell x ts)) → (xs : List A) (ts : List Kind) → length xs + length ts ≤ length (spell_all spell xs ts)
spell_all_length spell h [] ts = omega arith
spell_all_length spell h (x ∷ xs) ts = omega (arith, h x (spell_all spell xs ts), spell_all_length spell h xs ts)

-- ---- complete: where one thing is read back before what may follow it

-- each item is read back before the separator and before what follows the list
pub others_again : {A : Type 0} (r : Reader A) (separator : List Kind → Option (List Kind)) (spell : A → List Kind → List Kind) (k : Kind) (Good : A → Type 0) (follows : List Kind → Type 0)
    → ((x : A) (us : List Kind) → Good x → separator (k ∷ spell x us) ≡ Some (spell x us))
    → ((us : List Kind) → follows (k ∷ us))
    → ((x : A) (us : List Kind) → Good x → follows us → r (spell x us) ≡ Ok (x, us))
    → (xs : List A) (n : ℕ) (ts : List Kind) → Each Good xs → follows ts → separator ts ≡ None → length xs ≤ n
    → others r separator n (spell_others spell k xs ts) ≡ Ok (xs, ts)
unfolding others
others_again r separator spell k Good follows sep sf one [] zero ts g f e le = rw e refl
others_again r separator spell k Good follows sep sf one [] (suc n) ts g f e le = rw e refl
others_again r separator spell k Good follows sep sf one (x ∷ xs) zero ts g f e le = absurd (omega arith)
others_again r separator spell k Good follows sep sf one (x ∷ []) (suc n) ts g f e le =
    rw (sep x ts g.0, one x ts g.0 f, others_again r separator spell k Good follows sep sf one [] n ts tt f e (omega arith)) refl
others_again r separator spell k Good follows sep sf one (x ∷ y ∷ ys) (suc n) ts g f e le =
    rw (sep x (spell_others spell k (y ∷ ys) ts) g.0, one x (spell_others spell k (y ∷ ys) ts) g.0 (sf _), others_again r separator spell k Good follows sep sf one (y ∷ ys) n ts g.1 f e (omega arith)) refl

-- item {separator item} is read back; each spelling takes at least no tokens away
pub items_again : {A : Type 0} (r : Reader A) (separator : List Kind → Option (List Kind)) (spell : A → List Kind → List Kind) (k : Kind) (Good : A → Type 0) (follows : List Kind → Type 0)
    → ((x : A) (us : List Kind) → Good x → separator (k ∷ spell x us) ≡ Some (spell x us))
    → ((us : List Kind) → follows (k ∷ us))
    → ((x : A) (ts : List Kind) → length ts ≤ length (spell x ts))
    → ((x : A) (us : List Kind) → Good x → follows us → r (spell x us) ≡ Ok (x, us))
    → (x : A) (xs : List A) (ts : List Kind) → Good x → Each Good xs → follows ts → separator ts ≡ None
    → items r separator (spell x (spell_others spell k xs ts)) ≡ Ok (x ∷ xs, ts)
unfolding items
items_again r separator spell k Good follows sep sf grows one x [] ts g gs f e =
    rw (one x ts g f, others_again r separator spell k Good follows sep sf one [] (length ts) ts tt f e (omega arith)) refl
items_again r separator spell k Good follows sep sf grows one x (y ∷ ys) ts g gs f e =
    rw (one x (spell_others spell k (y ∷ ys) ts) g (sf _), others_again r separator spell k Good follows sep sf one (y ∷ ys) (length (spell_others spell k (y ∷ ys) ts)) ts gs f e (omega (arith, spell_others_length spell k grows (y ∷ ys) ts))) refl

-- {item} is read back, where the test tells before each item that they go on, and behind the last that they end. The
-- property `follows` says what may stand behind an item.
pub until_again : {A : Type 0} (r : Reader A) (ends : List Kind → Result Bool Fault) (spell : A → List Kind → List Kind) (Good : A → Type 0) (follows : List Kind → Type 0)
    → ((x : A) (us : List Kind) → Good x → follows us → ends (spell x us) ≡ Ok false)
    → ((x : A) (us : List Kind) → Good x → follows (spell x us))
    → ((x : A) (us : List Kind) → Good x → follows us → r (spell x us) ≡ Ok (x, us))
    → (xs : List A) (n : ℕ) (ts : List Kind) → Each Good xs → follows ts → ends ts ≡ Ok true → length xs < n
    → until r ends n (spell_all spell xs ts) ≡ Ok (xs, ts)
unfolding until
until_again r ends spell Good follows on begins one xs zero ts g f e le = absurd (omega arith)
until_again r ends spell Good follows on begins one [] (suc n) ts g f e le = rw e refl
until_again r ends spell Good follows on begins one (x ∷ []) (suc n) ts g f e le =
    rw (on x ts g.0 f, one x ts g.0 f, until_again r ends spell Good follows on begins one [] n ts tt f e (omega arith)) refl
until_again r ends spell Good follows on begins one (x ∷ y ∷ ys) (suc n) ts g f e le =
    rw (on x (spell_all spell (y ∷ ys) ts) g.0 (begins y _ g.1.0), one x (spell_all spell (y ∷ ys) ts) g.0 (begins y _ g.1.0), until_again r ends spell Good follows on begins one (y ∷ ys) n ts g.1 f e (omega arith)) refl

-- ---- sound: what is read is spelled so. For each answer of one item a property P of it holds besides.

pub record Took {A : Type 0} (spell : A → List Kind → List Kind) (P : A → Type 0) (ts : List Kind) (x : A × List Kind) : Type 0 where
  pub parts : ts ≡ spell x.0 x.1
  pub stands : P x.0

pub others_took : {A : Type 0} (r : Reader A) (separator : List Kind → Option (List Kind)) (spell : A → List Kind → List Kind) (k : Kind) (P : A → Type 0)
    → ((ts us : List Kind) → separator ts ≡ Some us → ts ≡ k ∷ us)
    → ((ts : List Kind) → IfOk (r ts) (Took spell P ts))
    → (n : ℕ) (ts : List Kind) → IfOk (others r separator n ts) (λ xs. Took (spell_others spell k) (Each P) ts xs × (separator xs.1 ≡ None))
unfolding others
others_took r separator spell k P sep one zero ts = took_choose (separator ts) _ _ _ (λ e. (record { parts = refl; stands = tt }, e)) (λ us e. tt)
others_took r separator spell k P sep one (suc n) ts =
    took_choose (separator ts) _ _ _ (λ e. (record { parts = refl; stands = tt }, e)) λ us e.
    took_bind (r us) _ _ _ (one us) λ x t.
    took_bind (others r separator n x.1) _ _ _ (others_took r separator spell k P sep one n x.1) λ xs q.
    (record { parts = sep ts us e ∙ ap (λ (v : List Kind). k ∷ v) (t.parts ∙ ap (spell x.0) q.0.parts); stands = (t.stands, q.0.stands) }, q.1)

-- item {separator item}: at least one
pub record TookItems {A : Type 0} (spell : A → List Kind → List Kind) (k : Kind) (P : A → Type 0) (separator : List Kind → Option (List Kind)) (ts : List Kind) (xs : List A × List Kind) : Type 0 where
  pub first : A
  pub more : List A
  pub all : xs.0 ≡ first ∷ more
  pub parts : ts ≡ spell first (spell_others spell k more xs.1)
  pub stands : P first × Each P more
  pub ended : separator xs.1 ≡ None

pub items_took : {A : Type 0} (r : Reader A) (separator : List Kind → Option (List Kind)) (spell : A → List Kind → List Kind) (k : Kind) (P : A → Type 0)
    → ((ts us : List Kind) → separator ts ≡ Some us → ts ≡ k ∷ us)
    → ((ts : List Kind) → IfOk (r ts) (Took spell P ts))
    → (ts : List Kind) → IfOk (items r separator ts) (TookItems spell k P separator ts)
unfolding items
items_took r separator spell k P sep one ts =
    took_bind (r ts) _ _ _ (one ts) λ x t.
    took_bind (others r separator (length x.1) x.1) _ _ _ (others_took r separator spell k P sep one (length x.1) x.1) λ xs q.
    record { first = x.0; more = xs.0; all = refl; parts = t.parts ∙ ap (spell x.0) q.0.parts; stands = (t.stands, q.0.stands); ended = q.1 }

pub until_took : {A : Type 0} (r : Reader A) (ends : List Kind → Result Bool Fault) (spell : A → List Kind → List Kind) (P : A → Type 0)
    → ((ts : List Kind) → IfOk (r ts) (Took spell P ts))
    → (n : ℕ) (ts : List Kind) → IfOk (until r ends n ts) (λ xs. Took (spell_all spell) (Each P) ts xs × (ends xs.1 ≡ Ok true))
unfolding until
until_took r ends spell P one zero ts = tt
until_took r ends spell P one (suc n) ts =
    took_bind (ends ts) _ (λ e. ends ts ≡ Ok e) _ (itself (ends ts)) λ e is.
    took_if e _ _ _ (λ y. (record { parts = refl; stands = tt }, is ∙ ap Ok y)) λ no.
    took_bind (r ts) _ _ _ (one ts) λ x t.
    took_bind (until r ends n x.1) _ _ _ (until_took r ends spell P one n x.1) λ xs q.
    (record { parts = t.parts ∙ ap (spell x.0) q.0.parts; stands = (t.stands, q.0.stands) }, q.1)
  where
    itself : {B : Type 0} (s : Result B Fault) → IfOk s (λ b. s ≡ Ok b)
    itself (Ok b) = refl
    itself (Err f) = tt

-- ---- deeper

pub others_deepens : {A : Type 0} (r s : Reader A) (separator : List Kind → Option (List Kind)) → ((ts : List Kind) → Deepens (r ts) (s ts)) → (n : ℕ) (ts : List Kind) → Deepens (others r separator n ts) (others s separator n ts)
unfolding others
others_deepens r s separator d zero ts = deepens_same _
others_deepens r s separator d (suc n) ts =
    deepens_choose (separator ts) _ _ _ _ refl λ us.
    deepens_bind (r us) (s us) _ _ (d us) λ x.
    deepens_bind (others r separator n x.1) (others s separator n x.1) _ _ (others_deepens r s separator d n x.1) λ xs. refl

pub items_deepens : {A : Type 0} (r s : Reader A) (separator : List Kind → Option (List Kind)) → ((ts : List Kind) → Deepens (r ts) (s ts)) → (ts : List Kind) → Deepens (items r separator ts) (items s separator ts)
unfolding items
items_deepens r s separator d ts =
    deepens_bind (r ts) (s ts) _ _ (d ts) λ x.
    deepens_bind (others r separator (length x.1) x.1) (others s separator (length x.1) x.1) _ _ (others_deepens r s separator d (length x.1) x.1) λ xs. refl

pub until_deepens : {A : Type 0} (r s : Reader A) (ends after : List Kind → Result Bool Fault) → ((ts : List Kind) → Deepens (r ts) (s ts)) → ((ts : List Kind) → Deepens (ends ts) (after ts)) → (n : ℕ) (ts : List Kind) → Deepens (until r ends n ts) (until s after n ts)
unfolding until
until_deepens r s ends after d f zero ts = refl
until_deepens r s ends after d f (suc n) ts =
    deepens_bind (ends ts) (after ts) _ _ (f ts) λ e.
    deepens_if e _ _ _ _ refl
    (deepens_bind (r ts) (s ts) _ _ (d ts) λ x.
    deepens_bind (until r ends n x.1) (until s after n x.1) _ _ (until_deepens r s ends after d f n x.1) λ xs. refl)

-- ---- where a fault of depth stands

pub others_keeps : {A : Type 0} (b : ℕ) (r : Reader A) (separator : List Kind → Option (List Kind)) → ((ts us : List Kind) → separator ts ≡ Some us → length us + 1 ≡ length ts) → ((ts : List Kind) → Keeps b 0 (length ts) (r ts)) → (n : ℕ) (ts : List Kind) → Keeps b 0 (length ts) (others r separator n ts)
unfolding others
others_keeps b r separator sep one zero ts = keeps_choose b 0 (length ts) (separator ts) _ _ (λ e. omega arith) (λ us e. tt)
others_keeps b r separator sep one (suc n) ts =
    keeps_choose b 0 (length ts) (separator ts) _ _ (λ e. omega arith) λ us e.
    keeps_less b 0 0 (length us) (length ts) _
    (keeps_bind b 0 0 0 (length us) (r us) _ (one us) (λ x h.
    keeps_bind b 0 0 0 (length x.1) (others r separator n x.1) _ (others_keeps b r separator sep one n x.1) (λ xs k. omega arith) (omega arith)) (omega arith))
    (omega (arith, sep ts us e)) (omega (arith, sep ts us e))

pub items_keeps : {A : Type 0} (b c : ℕ) (r : Reader A) (separator : List Kind → Option (List Kind)) → ((ts us : List Kind) → separator ts ≡ Some us → length us + 1 ≡ length ts) → ((ts : List Kind) → Keeps b c (length ts) (r ts)) → ((ts : List Kind) → Keeps b 0 (length ts) (r ts)) → (ts : List Kind) → Keeps b c (length ts) (items r separator ts)
unfolding items
items_keeps b c r separator sep one none ts =
    keeps_bind b c 0 c (length ts) (r ts) _ (one ts) (λ x h.
    keeps_bind b 0 0 0 (length x.1) (others r separator (length x.1) x.1) _ (others_keeps b r separator sep none (length x.1) x.1) (λ xs k. omega arith) (omega arith)) (omega arith)

-- a test that tells a fault of depth where at least b tokens stand before it
abbrev pub KeepsTest : ℕ → ℕ → Result Bool Fault → Type 0
KeepsTest b n (Ok e) = Unit {0}
KeepsTest b n (Err (Syntax m)) = Unit {0}
KeepsTest b n (Err (TooDeep m)) = m + b ≤ n

keeps_test : {B : Type 0} (b n : ℕ) (e : Result Bool Fault) (k : Bool → Result (B × List Kind) Fault) → KeepsTest b n e → ((t : Bool) → Keeps b 0 n (k t)) → Keeps b 0 n (e >>= k)
keeps_test b n (Ok e) k h f = f e
keeps_test b n (Err (Syntax m)) k h f = tt
keeps_test b n (Err (TooDeep m)) k h f = h

pub until_keeps : {A : Type 0} (b : ℕ) (r : Reader A) (ends : List Kind → Result Bool Fault) → ((ts : List Kind) → KeepsTest b (length ts) (ends ts)) → ((ts : List Kind) → Keeps b 0 (length ts) (r ts)) → (n : ℕ) (ts : List Kind) → Keeps b 0 (length ts) (until r ends n ts)
unfolding until
until_keeps b r ends test one zero ts = tt
until_keeps b r ends test one (suc n) ts =
    keeps_test b (length ts) (ends ts) _ (test ts) λ e.
    keeps_if b 0 (length ts) e _ _ (omega arith)
    (keeps_bind b 0 0 0 (length ts) (r ts) _ (one ts) (λ x h.
    keeps_bind b 0 0 0 (length x.1) (until r ends n x.1) _ (until_keeps b r ends test one n x.1) (λ xs k. omega arith) (omega arith)) (omega arith))
