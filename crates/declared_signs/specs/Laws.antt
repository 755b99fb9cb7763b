-- What holds of the texts of the functions that a module declares.
use Rattle.std.specs.Prelude.{◌≡◌, ◌⊎◌, ℕ, List}
use Rattle.limbo_typed.specs.Typed.{Module}
use Rattle.link_sign.specs.Clashes.{IsFirstClash}
use Rattle.link_sign.specs.declared.found.Clash.{Clash}
use Rattle.declared_signs.specs.Declared.{AreDeclaredTexts, AreToldApart, HasClash}

-- A module has one list of such texts.
abbrev pub EachHasTexts : Type 0
EachHasTexts = (m : Module) → (texts : List (List ℕ)) × AreDeclaredTexts m texts

abbrev pub OneListOfTexts : Type 0
OneListOfTexts = (m : Module) (s t : List (List ℕ)) → AreDeclaredTexts m s → AreDeclaredTexts m t → s ≡ t

-- two texts of functions that the module declares are its first clash
pub record Clashes (m : Module) : Type 0 where
  pub texts : List (List ℕ)
  pub declared : AreDeclaredTexts m texts
  pub first : List ℕ
  pub second : List ℕ
  pub clash : IsFirstClash texts first second

-- Each module's functions clash or are told apart, and never both.
abbrev pub ClashOrApart : Type 0
ClashOrApart = (m : Module) → Clashes m ⊎ AreToldApart m

abbrev pub NotBoth : Type 0
NotBoth = (m : Module) (c : Clash) → HasClash m c → AreToldApart m → ⊥

-- The first clash is one: it is told by one pair of texts, with one signature.
abbrev pub OneFirstClash : Type 0
OneFirstClash =
    (m : Module) (c d : Clash) → HasClash m c → HasClash m d
    → (c.first.items ≡ d.first.items) × (c.second.items ≡ d.second.items) × (c.sign ≡ d.sign)
