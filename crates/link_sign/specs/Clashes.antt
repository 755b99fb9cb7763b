-- Texts of functions that can't be told apart by their signatures.
use Rattle.std.specs.Prelude.{Vec, ◌≡◌, ◌≢◌, ℕ, List, ◌∷◌, ◌++◌, map}
use Rattle.std.specs.Global.{Global}
use Rattle.limbo_layout.specs.Adts.{Has}
use Rattle.link_sign.specs.declared.found.Clash.{Clash}
use Rattle.link_sign.specs.Signature.{fold}

-- The signatures tell these texts apart: two with one signature are one text.
abbrev pub AreApart : List (List ℕ) → Type 0
AreApart texts = (s t : List ℕ) → Has texts s → Has texts t → fold s ≡ fold t → s ≡ t

-- The first text in the list that has the signature of another one before it, and that one.
pub record IsFirstClash (texts : List (List ℕ)) (first second : List ℕ) : Type 0 where
  pub before : List (List ℕ)
  pub behind : List (List ℕ)
  pub stands : texts ≡ before ++ second ∷ behind
  pub apart_before : AreApart before
  pub stands_before : Has before first
  pub differ : first ≢ second
  pub one_sign : fold first ≡ fold second

-- the same as the code tells it, with the signature
pub record Tells (texts : List (List ℕ)) (c : Clash) : Type 0 where
  pub clash : IsFirstClash texts c.first.items c.second.items
  pub sign : c.sign ≡ fold c.second.items

-- texts of the code
abbrev pub texts_of : List (Vec ℕ Global) → List (List ℕ)
texts_of vs = map (λ v. v.items) vs
