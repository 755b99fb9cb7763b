-- What decoding answers.
use Rattle.std.specs.Prelude.{◌≡◌, ◌⊎◌, ℕ, ◌-◌, List, Result, Ok, Err, take, drop}
use Rattle.byteorder.specs.Endian.{little_number}
use Rattle.styx_msg.specs.declared.fault.StyxFault.{StyxFault}
use Rattle.styx_msg.specs.declared.fault.StyxFault.TheVariants.{NoMemory, BadSize, BadType, BadBody, TooLong}
use Rattle.styx_msg.specs.declared.message.Decoded.{Decoded}
use Rattle.styx_msg.specs.declared.message.Decoded.TheVariants.{Whole, Short}
use Rattle.styx_msg.specs.Styx.{Row, Begins, IsShort, IsFramed, stated_size, stated_type, HasBadSize}
use Rattle.styx_msg.specs.Styx.{HasBadType, HasType, HasBadBody}

-- Each answer says what the bytes are. These cases exclude one another. Memory is wanted only for a body whose type
-- is known, and nothing that is read is too long.
abbrev pub IsAnswer : {M : Type 0} → (M → Row) → List ℕ → Result (Decoded M) StyxFault → Type 0
IsAnswer table bytes (Ok (Whole tag m used)) = Begins table bytes tag m used
IsAnswer table bytes (Ok Short) = IsShort bytes
IsAnswer table bytes (Err NoMemory) = HasType table bytes
IsAnswer table bytes (Err BadSize) = HasBadSize bytes
IsAnswer table bytes (Err BadType) = HasBadType table bytes
IsAnswer table bytes (Err BadBody) = HasBadBody table bytes
IsAnswer table bytes (Err TooLong) = ⊥

-- The parts of the bytes that their size states.
pub record IsFrame (bytes : List ℕ) (type tag : ℕ) (body : List ℕ) (size : ℕ) : Type 0 where
  pub framed : IsFramed bytes
  pub size_is : size ≡ stated_size bytes
  pub type_is : type ≡ stated_type bytes
  pub tag_is : tag ≡ little_number 2 (drop 5 bytes)
  pub body_is : body ≡ take (size - 7) (drop 7 bytes)
