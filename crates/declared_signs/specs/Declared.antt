-- The functions that a module declares, and the texts by which they are linked (Limbo Language Reference, load; Dis Object File, links).
use Rattle.std.specs.Prelude.{◌≡◌, ℕ, List, [], ◌∷◌, ◌++◌, map}
use Rattle.std.specs.List.{flat_map}
use Rattle.limbo_types.specs.Types.{FnTy}
use Rattle.limbo_layout.specs.Adts.{Def}
use Rattle.limbo_typed.specs.Typed.{Interface, Module}
use Rattle.link_sign.specs.TypeText.{IsText}
use Rattle.link_sign.specs.Clashes.{AreApart, Tells}
use Rattle.link_sign.specs.declared.builtin.TheConstants.{PRINT, FPRINT, SPRINT}
use Rattle.link_sign.specs.declared.found.Clash.{Clash}

-- the types of the functions of a module type
abbrev pub members : Interface → List FnTy
members i = map (λ f. f.of) i.functions

-- The types of all functions that a module declares: those that it has for others, and those of each module type, in their order.
abbrev pub declared_types : Module → List FnTy
declared_types m = map (λ f. f.of) m.declared ++ flat_map members m.interfaces

-- These are the texts of functions of these types, in their order.
abbrev pub AreTexts : List Def → (modules : List (List ℕ)) → List FnTy → List (List ℕ) → Type 0
AreTexts defs modules [] texts = texts ≡ []
AreTexts defs modules (f ∷ fs) texts =
    (text : List ℕ) × (more : List (List ℕ))
    × (texts ≡ text ∷ more) × IsText defs modules f text × AreTexts defs modules fs more

-- The texts of all functions that a module declares, and behind them those of the three built-in prints, which every program declares.
pub record AreDeclaredTexts (m : Module) (texts : List (List ℕ)) : Type 0 where
  pub own : List (List ℕ)
  pub are : AreTexts m.adts m.modules (declared_types m) own
  pub all : texts ≡ own ++ PRINT ∷ FPRINT ∷ SPRINT ∷ []

-- Signatures tell the functions that the module declares apart.
pub record AreToldApart (m : Module) : Type 0 where
  pub texts : List (List ℕ)
  pub declared : AreDeclaredTexts m texts
  pub apart : AreApart texts

-- This is the first clash of the functions that the module declares.
pub record HasClash (m : Module) (c : Clash) : Type 0 where
  pub texts : List (List ℕ)
  pub declared : AreDeclaredTexts m texts
  pub tells : Tells texts c
