-- What holds of literals.
use Rattle.std.specs.Prelude.{◌≡◌, List}
use Rattle.limbo_types.specs.Types.{Ty}
use Rattle.limbo_typed.specs.Typed.{Expr, Of, Exprs, Optional, Items, Module, Var}
use Rattle.limbo_typed.specs.Sound.{IsSettled, SoundNode}
use Rattle.limbo_arguments.specs.Parts.{SoundParts}
use Rattle.limbo_literals.specs.Literals.{Tuples, Lists, Fills, Sizes, Makes}

-- Parts are one literal at most.
abbrev pub OneTuple : Type 0
OneTuple = (es : Exprs) (e f : Expr) → Tuples es e → Tuples es f → e ≡ f

abbrev pub OneList : Type 0
OneList = (es : Exprs) (e f : Expr) → Lists es e → Lists es f → e ≡ f

abbrev pub OneFill : Type 0
OneFill = (length : Optional) (is : Items) (rest : Optional) (e f : Expr) → Fills length is rest e → Fills length is rest f → e ≡ f

abbrev pub OneSize : Type 0
OneSize = (length : Expr) (t : Ty) (e f : Expr) → Sizes length t e → Sizes length t f → e ≡ f

abbrev pub OneMake : Type 0
OneMake = (t : Ty) (e f : Expr) → Makes t e → Makes t f → e ≡ f

-- An expression fits its parts, once it isn't open, if these are sound.
abbrev pub IsFit : Module → List Var → Expr → Type 0
IsFit m vs (Of t n) = IsSettled t → SoundParts m vs n → SoundNode m vs t n

abbrev pub TuplesAreSound : Type 0
TuplesAreSound = (m : Module) (vs : List Var) (es : Exprs) (e : Expr) → Tuples es e → IsFit m vs e

abbrev pub ListsAreSound : Type 0
ListsAreSound = (m : Module) (vs : List Var) (es : Exprs) (e : Expr) → Lists es e → IsFit m vs e

abbrev pub FillsAreSound : Type 0
FillsAreSound =
    (m : Module) (vs : List Var) (length : Optional) (is : Items) (rest : Optional) (e : Expr)
    → Fills length is rest e → IsFit m vs e

abbrev pub SizesAreSound : Type 0
SizesAreSound = (m : Module) (vs : List Var) (length : Expr) (t : Ty) (e : Expr) → Sizes length t e → IsFit m vs e

abbrev pub MakesAreSound : Type 0
MakesAreSound = (m : Module) (vs : List Var) (t : Ty) (e : Expr) → Makes t e → IsFit m vs e
