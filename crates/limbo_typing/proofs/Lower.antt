-- What holds of the crates below.
use Rattle.std.proofs.Common.{◌≡◌, sym, ap, ◌∙◌, ℕ, List}
use Rattle.std.proofs.lemmas.Option.{same_Some}
use Rattle.limbo_types.specs.Types.{Module}
use Rattle.limbo_typed.specs.Typed.{Absent, Present}
use Rattle.limbo_scope.specs.declared.meaning.Meaning.{Meaning}
use Rattle.limbo_defining.specs.limbo_context.Context.{Context, Body}
use Rattle.limbo_assigning.specs.Laws.{OneAssigned}
use Rattle.limbo_value_forms.specs.Laws.{OneForm}
use Rattle.limbo_applying.specs.limbo_things.Things.{Thing, AValue, AType, NameIs, MemberIs, exported, meant}

-- Two of their laws.
pub record OneBelow : Type 0 where
  pub form : OneForm
  pub assigned : OneAssigned

-- ---- a name and a member are one thing at most

pub one_name : (c : Context) (b : Body) (n : List ℕ) (s t : Thing) → NameIs c b n s → NameIs c b n t → s ≡ t
one_name c b n s t h k =
    let same : h.means ≡ k.means = same_Some h.means k.means (sym h.is_seen ∙ k.is_seen) in
    same_Some s t (sym h.is ∙ ap (λ (m : Meaning). meant c b m) same ∙ k.is)

same_module : (i j : ℕ) → Module i ≡ Module j → i ≡ j
same_module i j e = cc

pub one_member : (c : Context) (n : List ℕ) (base s t : Thing) → MemberIs c n base s → MemberIs c n base t → s ≡ t
one_member c n (AValue e) s t h k =
    let same : h.0 ≡ k.0 = same_module h.0 k.0 (sym h.1 ∙ k.1) in
    same_Some s t (sym h.2 ∙ ap (λ (i : ℕ). exported c i (Present e) n) same ∙ k.2)
one_member c n (AType u) s t h k =
    let same : h.0 ≡ k.0 = same_module h.0 k.0 (sym h.1 ∙ k.1) in
    same_Some s t (sym h.2 ∙ ap (λ (i : ℕ). exported c i Absent n) same ∙ k.2)
one_member c n _ s t h k = absurd h
