-- What holds of texts, signatures and clashes.
use Rattle.std.specs.Prelude.{◌≡◌, ◌≢◌, ◌⊎◌, ℕ, true, List}
use Rattle.limbo_types.specs.Types.{FnTy}
use Rattle.limbo_types.specs.View.{tys_of}
use Rattle.limbo_types.specs.Same.{same, all_same}
use Rattle.limbo_layout.specs.Adts.{Def}
use Rattle.link_sign.specs.TypeText.{IsText}
use Rattle.link_sign.specs.Computed.{text_of}
use Rattle.link_sign.specs.Signature.{fold, IsSignature}
use Rattle.link_sign.specs.Clashes.{AreApart, IsFirstClash}
use Rattle.link_sign.specs.declared.builtin.TheConstants.{PRINT, FPRINT, SPRINT}

-- A function's type has one text at most.
abbrev pub OneText : Type 0
OneText =
    (defs : List Def) (modules : List (List ℕ)) (f : FnTy) (s t : List ℕ) → IsText defs modules f s → IsText defs modules f t → s ≡ t

-- Each has a text: the one that `text_of` computes.
abbrev pub EachHasText : Type 0
EachHasText = (defs : List Def) (modules : List (List ℕ)) (f : FnTy) → IsText defs modules f (text_of defs modules f)

-- Functions whose arguments and answers have the same types have the same text.
abbrev pub SameTypesOneText : Type 0
SameTypesOneText =
    (defs : List Def) (modules : List (List ℕ)) (f g : FnTy) (s t : List ℕ) →
    all_same (tys_of f.args) (tys_of g.args) ≡ true → same f.answer g.answer ≡ true →
    IsText defs modules f s → IsText defs modules g t → s ≡ t

-- A function has one signature: what the text that `text_of` computes folds to.
abbrev pub OneSignature : Type 0
OneSignature =
    (defs : List Def) (modules : List (List ℕ)) (f : FnTy) (sign : ℕ) → IsSignature defs modules f sign →
    sign ≡ fold (text_of defs modules f)

-- No function has the text of a print: of these three each has an argument `*`, which no type spells.
abbrev pub NoneIsPrint : Type 0
NoneIsPrint =
    (defs : List Def) (modules : List (List ℕ)) (f : FnTy) (text : List ℕ) → IsText defs modules f text →
    (text ≢ PRINT) × (text ≢ FPRINT) × (text ≢ SPRINT)

-- Of texts that clash one pair is the first.
abbrev pub OneClash : Type 0
OneClash =
    (texts : List (List ℕ)) (f g s t : List ℕ) → IsFirstClash texts f s → IsFirstClash texts g t → (f ≡ g) × (s ≡ t)

-- Texts clash or are apart, and never both.
abbrev pub ClashOrApart : Type 0
ClashOrApart =
    (texts : List (List ℕ)) → ((first : List ℕ) × (second : List ℕ) × IsFirstClash texts first second) ⊎ AreApart texts

abbrev pub NotBoth : Type 0
NotBoth = (texts : List (List ℕ)) (first second : List ℕ) → IsFirstClash texts first second → AreApart texts → ⊥
