-- What a call that can run out of memory says of a value that is stated.
use Rattle.std.specs.Prelude.{◌≡◌, ◌⊎◌, ⊤, ℕ, Option, Some, None, Result, Ok, Err}
use Rattle.std.specs.Global.{Vec}
use Rattle.styx_msg.specs.declared.fault.StyxFault.{StyxFault}
use Rattle.styx_msg.specs.Styx.{Row, spelling, IsShortEnough}
use Rattle.styx_msg.specs.declared.fault.StyxFault.TheVariants.{NoMemory, BadSize, BadType, BadBody, TooLong}

-- The one fault of a body that nothing is stated of, unless memory ran out.
abbrev pub FailsAs : {Y : Type 0} → StyxFault → StyxFault → Option Y → Type 0
FailsAs fault NoMemory stated = ⊤
FailsAs fault BadSize stated = ⊥
FailsAs fault BadType stated = ⊥
FailsAs fault BadBody stated = (fault ≡ BadBody) × (stated ≡ None)
FailsAs fault TooLong stated = (fault ≡ TooLong) × (stated ≡ None)

-- What a call answered, seen by view, is the value that is stated, or the fault where none is, unless memory ran out.
abbrev pub Gives : {X Y : Type 0} → StyxFault → (X → Y) → Result X StyxFault → Option Y → Type 0
Gives fault view (Ok x) stated = stated ≡ Some (view x)
Gives fault view (Err e) stated = FailsAs fault e stated

-- What encoding answers: the spelling of a message that isn't too long, TooLong for one that is, or want of memory.
abbrev pub IsEncoding : ℕ → Row → Result (Vec ℕ) StyxFault → Type 0
IsEncoding tag m (Ok v) = IsShortEnough m × (v.items ≡ spelling tag m)
IsEncoding tag m (Err NoMemory) = ⊤
IsEncoding tag m (Err BadSize) = ⊥
IsEncoding tag m (Err BadType) = ⊥
IsEncoding tag m (Err BadBody) = ⊥
IsEncoding tag m (Err TooLong) = IsShortEnough m → ⊥

-- The call answered this, unless memory ran out.
abbrev pub OrNoMemory : {X : Type 0} → Result X StyxFault → Result X StyxFault → Type 0
OrNoMemory result answer = (result ≡ answer) ⊎ (result ≡ Err NoMemory)

-- The number that a refusal is known by. Want of memory is no refusal.
abbrev pub refusal_number : StyxFault → Option ℕ
refusal_number NoMemory = None
refusal_number BadSize = Some 10
refusal_number BadType = Some 11
refusal_number BadBody = Some 12
refusal_number TooLong = Some 13
