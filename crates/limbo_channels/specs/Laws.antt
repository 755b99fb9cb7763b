-- What holds of sends, receives and loads.
use Rattle.std.specs.Prelude.{ℕ, ◌≡◌, List}
use Rattle.limbo_types.specs.Types.{Ty, Chars}
use Rattle.limbo_typed.specs.Typed.{Expr, Var, Module}
use Rattle.limbo_typed.specs.Sound.{type_of, IsNamed, SoundExpr}
use Rattle.limbo_standing.specs.Standing.{Settles}
use Rattle.limbo_channels.specs.Channels.{Sends, Receives}
use Rattle.limbo_channels.specs.Loading.{Loads}

-- Each is one expression at most.
abbrev pub OneReceive : Type 0
OneReceive = (channel e f : Expr) → Receives channel e → Receives channel f → e ≡ f

abbrev pub OneSend : Type 0
OneSend = (channel value e f : Expr) → Sends channel value e → Sends channel value f → e ≡ f

abbrev pub OneLoad : Type 0
OneLoad = (interface : ℕ) (path e f : Expr) → Loads interface path e → Loads interface path f → e ≡ f

-- What is received is sound where the channel is.
abbrev pub ReceivesAreSound : Type 0
ReceivesAreSound = (m : Module) (vs : List Var) (channel e : Expr) → Receives channel e → SoundExpr m vs channel
    → IsNamed m (type_of e) → SoundExpr m vs e

-- A value that is sound where a type is asked for: before that it may have open parts.
abbrev pub SoundAs : Module → List Var → Ty → Expr → Type 0
SoundAs m vs t value = (v : Expr) → Settles t value v → SoundExpr m vs v

-- A send is sound where the channel is, and where the value is as what the channel carries.
abbrev pub SendsAreSound : Type 0
SendsAreSound = (m : Module) (vs : List Var) (channel value e : Expr) → Sends channel value e → SoundExpr m vs channel
    → SoundAs m vs (type_of e) value → IsNamed m (type_of e) → SoundExpr m vs e

-- A load is sound where the path is as a string.
abbrev pub LoadsAreSound : Type 0
LoadsAreSound = (m : Module) (vs : List Var) (interface : ℕ) (path e : Expr) → Loads interface path e → SoundAs m vs Chars path
    → IsNamed m (type_of e) → SoundExpr m vs e
