-- A module has one list of texts, which clash or are apart.
use Rattle.std.proofs.Common.{◌≡◌, ℕ, List, [], ◌∷◌, ◌++◌, ◌↔◌, inl, inr, refl, sym, ap, ◌∙◌, subst, Option, None, Some}
use Rattle.std.specs.Prelude.{IfSome}
use Rattle.limbo_types.specs.Types.{FnTy}
use Rattle.limbo_layout.specs.Adts.{Def}
use Rattle.limbo_typed.specs.Typed.{Module}
use Rattle.link_sign.specs.Computed.{text_of}
use Rattle.link_sign.specs.Signature.{fold}
use Rattle.link_sign.specs.Clashes.{AreApart, IsFirstClash, Tells}
use Rattle.link_sign.specs.Laws.{OneText, EachHasText, OneClash, ClashOrApart, NotBoth}
use Rattle.link_sign.specs.declared.builtin.TheConstants.{PRINT, FPRINT, SPRINT}
use Rattle.link_sign.specs.declared.found.Clash.{Clash}
use Rattle.declared_signs.specs.Declared.{AreTexts, AreDeclaredTexts, AreToldApart, HasClash, declared_types}
use Rattle.declared_signs.specs.Laws as laws
use Rattle.declared_signs.specs.Laws.{Clashes}

module _ (defs : List Def) (modules : List (List ℕ)) where
  some_texts : EachHasText → (fs : List FnTy) → (texts : List (List ℕ)) × AreTexts defs modules fs texts
  some_texts each [] = ([], refl)
  some_texts each (f ∷ fs) =
      let r = some_texts each fs in
      (text_of defs modules f ∷ r.0, (text_of defs modules f, r.0, refl, each defs modules f, r.1))

  one_texts : OneText → (fs : List FnTy) (s t : List (List ℕ)) → AreTexts defs modules fs s → AreTexts defs modules fs t → s ≡ t
  one_texts one [] s t a b = a ∙ sym b
  one_texts one (f ∷ fs) s t a b =
      a.2 ∙ ap (λ z. z ∷ a.1) (one defs modules f a.0 b.0 a.3 b.3)
      ∙ ap (λ z. b.0 ∷ z) (one_texts one fs a.1 b.1 a.4 b.4) ∙ sym b.2

pub each_has_texts : EachHasText → laws.EachHasTexts
each_has_texts each m =
    let r = some_texts m.adts m.modules each (declared_types m) in
    (r.0 ++ PRINT ∷ FPRINT ∷ SPRINT ∷ [], record { own = r.0; are = r.1; all = refl })

pub one_list : OneText → laws.OneListOfTexts
one_list one m s t a b =
    a.all ∙ ap (λ z. z ++ PRINT ∷ FPRINT ∷ SPRINT ∷ []) (one_texts m.adts m.modules one (declared_types m) a.own b.own a.are b.are)
    ∙ sym b.all

pub clash_or_apart : EachHasText → ClashOrApart → laws.ClashOrApart
clash_or_apart each either m =
    let d = each_has_texts each m in
    elim (either d.0) [
      | inl c ↦ inl (record { texts = d.0; declared = d.1; first = c.0; second = c.1; clash = c.2 })
      | inr a ↦ inr (record { texts = d.0; declared = d.1; apart = a })
    ]

pub not_both : OneText → NotBoth → laws.NotBoth
not_both one never m c h a =
    let same = one_list one m a.texts h.texts a.declared h.declared in
    never h.texts c.first.items c.second.items h.tells.clash (subst AreApart same a.apart)

pub one_first_clash : OneText → OneClash → laws.OneFirstClash
one_first_clash one clash m c d h g =
    let same = one_list one m h.texts g.texts h.declared g.declared in
    let there : IsFirstClash g.texts c.first.items c.second.items =
    subst (λ z. IsFirstClash z c.first.items c.second.items) same h.tells.clash in
    let r = clash g.texts c.first.items d.first.items c.second.items d.second.items there g.tells.clash in
    (r.0, r.1, h.tells.sign ∙ ap fold r.1 ∙ sym g.tells.sign)

-- what is told of the texts of a module is told of the module
pub told_apart : OneText → (m : Module) (texts : List (List ℕ)) → AreDeclaredTexts m texts → (P : Type 0) → (P ↔ AreApart texts)
    → (P ↔ AreToldApart m)
told_apart one m texts d P i = (
  λ p. record { texts = texts; declared = d; apart = i.0 p },
  λ a. i.1 (subst AreApart (one_list one m a.texts texts a.declared d) a.apart),
)

pub has_clash : (m : Module) (texts : List (List ℕ)) → AreDeclaredTexts m texts → (r : Option Clash) → IfSome r (Tells texts)
    → IfSome r (HasClash m)
has_clash m texts d None is = tt
has_clash m texts d (Some c) is = record { texts = texts; declared = d; tells = is }
