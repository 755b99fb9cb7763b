-- A name's number leads to what is told of its declaration.
use Rattle.std.proofs.Common.{◌≡◌, ◌+◌, ◌==◌, ◌∷◌, [], ℕ, Bool, true, false, cond, if◌then◌else◌, List, Some, None, take, slice_get, count_by, refl, ap, ◌∙◌, sym}
use Rattle.std.specs.List.{sum_by}
use Rattle.std.proofs.lemmas.List.Sums.{sum_by-cons}
use Rattle.limbo_declarations.specs.Rows as rows
use Rattle.limbo_declarations.specs.Rows.{Declared}
use Rattle.limbo_naming.specs.Naming.{is_adt, is_module}
use Rattle.limbo_type_names.specs.Counts.{is_adt_entry, is_module_entry}
use Rattle.limbo_source_adts.proofs.Counts.{adt_counts, module_counts}
use Rattle.limbo_meanings.specs.Kinds.{kind_in, is_at, is_own, is_outermost}
use Rattle.limbo_outline.specs.Outline.{IsScopeOf}
use Rattle.limbo_outline.specs.Laws.{ScopeOfNumber, AdtsByNumber, ModulesByNumber}
use Rattle.limbo_entries.specs.Entries.{Entry, IsEntry}
use Rattle.limbo_meanings.specs.declared.kind.Kind.{Kind}
use Rattle.limbo_meanings.specs.declared.kind.Kind.TheVariants as kind
use Rattle.limbo_meanings.specs.Kinds.{place, has_kind}
use Rattle.limbo_meanings.specs.Meanings.{numbered, meaning_of}
use Rattle.limbo_meanings.specs.Listed.{Listed}
use Rattle.limbo_meanings.proofs.Lists.{listed_at}
use Rattle.limbo_meanings.proofs.Numbered.{number_is}
use Rattle.limbo_outline.specs.Outline.{IsConstant, IsType, IsGlobal, IsFunction, IsException}
use Rattle.limbo_outline.specs.Laws.{ConstantOfNumber, TypeOfNumber, GlobalOfNumber, FunctionOfNumber, ExceptionOfNumber}

there : {A : Type 0} → (l : Kind) (es : List Entry) (m k n : ℕ) (e : Entry) (is : ℕ → Entry → A → Type 0) (xs : List A)
    → Listed (has_kind es m (place l)) is 0 es xs → IsEntry es k e → meaning_of es m k e ≡ Some (numbered l n)
    → (a : A) × (slice_get xs n ≡ Some a) × is k e a
there l es m k n e is xs are at h =
    let p = number_is es m k e l n h in
    let r = listed_at (has_kind es m (place l)) is es xs k e are at p.0 in
    (r.0, ap (λ z. slice_get xs z) (sym p.1) ∙ r.1, r.2)

pub constant_of : ConstantOfNumber
constant_of es m k n e xs are at h = there kind.Constant es m k n e (IsConstant es m) xs are at h

pub type_of : TypeOfNumber
type_of es m k n e xs are at h = there kind.Type es m k n e (IsType es m) xs are at h

pub global_of : GlobalOfNumber
global_of es m k n e xs are at h = there kind.Global es m k n e (IsGlobal es m) xs are at h

pub function_of : FunctionOfNumber
function_of es m k n e xs are at h = there kind.Function es m k n e (IsFunction es m) xs are at h

pub exception_of : ExceptionOfNumber
exception_of es m k n e name xs are at h = there kind.Exception es m k n e (IsException es m name) xs are at h

pub scope_of : ScopeOfNumber
scope_of es m k n e l means xs are at h =
    let r = there l es m k n e (IsScopeOf means es) xs are at h in
    r.1 ∙ ap Some r.2

-- ---- adts and module types

abbrev one_if : (Entry → Bool) → Entry → ℕ
one_if p x = cond (p x) 1 0

-- by tests that are alike
count_same : (p q : Entry → Bool) → ((x : Entry) → p x ≡ q x) → (xs : List Entry) → count_by p xs ≡ count_by q xs
count_same p q f [] = refl
count_same p q f (x ∷ xs) =
    let h : sum_by (one_if p) xs ≡ sum_by (one_if q) xs = count_same p q f xs in
    let e : one_if p x ≡ one_if q x = ap (λ (b : Bool). let r : ℕ = cond b 1 0 in r) (f x) in
    sum_by-cons (one_if p) x xs ∙ ap (λ k. k + sum_by (one_if p) xs) e ∙ ap (λ k. one_if q x + k) h ∙ sym (sum_by-cons (one_if q) x xs)

off : (p : ℕ) (k : Kind) (b : Bool) → (place k == p) ≡ false → is_at p (if b then Some k else None) ≡ false
off p k true f = f
off p k false f = refl

adt_alike : (own out : Bool) (d : Declared) → is_at 3 (kind_in own out d) ≡ is_adt d
adt_alike own out (rows.Variable t e) = off 3 kind.Global out refl
adt_alike own out (rows.Inferred e) = off 3 kind.Global out refl
adt_alike own out (rows.Function f) = off 3 kind.Function own refl
adt_alike own out _ = refl

module_alike : (own out : Bool) (d : Declared) → is_at 4 (kind_in own out d) ≡ is_module d
module_alike own out (rows.Variable t e) = off 4 kind.Global out refl
module_alike own out (rows.Inferred e) = off 4 kind.Global out refl
module_alike own out (rows.Function f) = off 4 kind.Function own refl
module_alike own out _ = refl

pub adts_by : AdtsByNumber
adts_by es m k n e h =
    let p = number_is es m k e kind.Adt n h in
    let same = λ (x : Entry). adt_alike (is_own es m x.within) (is_outermost m x.within) x.row.means in
    sym p.1 ∙ count_same (has_kind es m 3) is_adt_entry same (take k es) ∙ sym (adt_counts es k e (sym (same e) ∙ p.0))

pub modules_by : ModulesByNumber
modules_by es m k n e h =
    let p = number_is es m k e kind.Module n h in
    let same = λ (x : Entry). module_alike (is_own es m x.within) (is_outermost m x.within) x.row.means in
    sym p.1 ∙ count_same (has_kind es m 4) is_module_entry same (take k es) ∙ sym (module_counts es k e (sym (same e) ∙ p.0))
