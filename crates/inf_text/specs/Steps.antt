-- What is answered in steps, and what a function of the code returns for it.
use Rattle.std.specs.Prelude.{◌≡◌, Option, None, Some, Result, Ok, Err}

infixl 10 ◌>>=◌
-- a step behind another, where that one has an answer
abbrev pub ◌>>=◌ : {E A B : Type 0} → Result A E → (A → Result B E) → Result B E
(Ok x) >>= f = f x
(Err e) >>= f = Err e

-- one of two, by whether there is a value
abbrev pub choose : {A B : Type 0} → Option A → B → (A → B) → B
choose None x f = x
choose (Some a) x f = f a

-- The refusal that an error of the code tells, if it tells one, is what is given. Want of memory tells none.
abbrev pub Refuses : {Y F : Type 0} → Option F → Result Y F → Type 0
Refuses None given = Unit {0}
Refuses (Some f) given = given ≡ Err f

-- What a function returned, seen by `see`, is what the definition gives, unless memory ran out. `told` has the refusal that an error tells.
abbrev pub Gives : {X Y E F : Type 0} → (E → Option F) → (X → Y) → Result X E → Result Y F → Type 0
Gives told see (Ok x) given = given ≡ Ok (see x)
Gives told see (Err e) given = Refuses (told e) given
