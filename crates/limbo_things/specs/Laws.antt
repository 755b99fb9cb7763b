-- What holds of things.
use Rattle.std.specs.Prelude.{ℕ, ◌≡◌, List}
use Rattle.limbo_context.specs.Context.{Context, Body}
use Rattle.limbo_things.specs.Things.{Thing, NameIs, MemberIs, PartIs}

-- Each is one thing at most.
abbrev pub OneName : Type 0
OneName = (c : Context) (b : Body) (name : List ℕ) (s t : Thing) → NameIs c b name s → NameIs c b name t → s ≡ t

abbrev pub OneMember : Type 0
OneMember = (c : Context) (name : List ℕ) (base s t : Thing) → MemberIs c name base s → MemberIs c name base t → s ≡ t

abbrev pub OnePart : Type 0
OnePart = (c : Context) (name : List ℕ) (base s t : Thing) → PartIs c name base s → PartIs c name base t → s ≡ t
