-- How far a machine stays from the ends of its counts: how many blocks it makes, and how many references to one block there are.
use Rattle.std.specs.Prelude.{ℕ, ◌+◌, ◌^◌, ◌≡◌, ◌≤◌, ◌<◌, List, ◌∷◌, length, Some, slice_get}
use Rattle.std.specs.List.{AllByRecursion}
use Rattle.styx_msg.specs.declared.message.Rmsg.{Rmsg}
use Rattle.process_model.specs.Law.{instructions}
use Rattle.process_model.specs.Machine.{Event, turns, replay}
use Rattle.dis_file.specs.declared.object.Object.{Object}
use Rattle.dis_file.specs.declared.types.TypeDesc.{TypeDesc}
use Rattle.dis_meaning.specs.Words.{Found}
use Rattle.dis_memory.specs.Naming.{naming, count}
use Rattle.dis_memory.specs.Rules.{rules}
use Rattle.dis_counts.specs.Counts.{Machine, begun}
use Rattle.dis_counts.specs.Opening.{Opened, opened}

-- ---- blocks

-- How many blocks a machine has made so far, also those that have gone: each has a serial of its own.
abbrev pub blocks_made : Machine → ℕ
blocks_made s = length s.world.heap

-- How many instructions a journal has, over all its quanta.
abbrev pub instructions_in : List (Event Rmsg) → ℕ
instructions_in journal = length (instructions journal)

-- In every state of a run, also within a quantum, there was made one block for the module's data, at most one for each item of these, and
-- at most one by each instruction. Replies make none.
abbrev pub BlocksStayFew : Type 0
BlocksStayFew =
    (limit longest : ℕ) (o : Object) (others : List Object) (m : Opened) → opened o ≡ Found m →
    (journal : List (Event Rmsg)) (s : Machine) →
    replay (rules limit (o ∷ others)) naming longest (begun m) journal ≡ Some s →
    (i n : ℕ) (t : Machine) → turns (rules limit (o ∷ others)) naming i n s ≡ Some t →
    blocks_made t ≤ 1 + length o.items + (instructions_in journal + n)

-- ---- references

-- The most blocks that a heap makes, and the most references that it counts to one block: each of these numbers has 64 bits.
abbrev pub most : ℕ
most = 18446744073709551615

-- Room for an instruction on its way. Code holds new references before it lets old ones go, at most as many as a value, a frame or an array
-- has words; so one instruction holds and makes at most 2^27 words and a block, in names of one block.
abbrev pub held_at_once : ℕ
held_at_once = 2 ^ 32

-- Neither end is met, nor would it be on the way of one instruction more, which makes at most one block.
pub record IsFar (s : Machine) : Type 0 where
  pub blocks : blocks_made s + 1 < most
  pub counts : (n : ℕ) → count s.world s.processes n + held_at_once < most

-- An object as an object file of fewer than 2^32 bytes can hold it: a size has 30 bits there, of which one is its sign, and an item takes a
-- byte at least.
pub record IsSized (o : Object) : Type 0 where
  pub types : (k : ℕ) (t : TypeDesc) → slice_get o.types k ≡ Some t → t.size < 2 ^ 29
  pub items : length o.items < 2 ^ 32

abbrev pub AllSized : List Object → Type 0
AllSized objects = AllByRecursion IsSized objects

-- In every state of a run of such objects, also within a quantum, that took at most 2^35 instructions so far, whatever the quanta and the
-- replies are.
abbrev pub LimitsStayFar : Type 0
LimitsStayFar =
    (limit longest : ℕ) (o : Object) (others : List Object) (m : Opened) → AllSized (o ∷ others) → opened o ≡ Found m →
    (journal : List (Event Rmsg)) (s : Machine) →
    replay (rules limit (o ∷ others)) naming longest (begun m) journal ≡ Some s →
    (i n : ℕ) (t : Machine) → turns (rules limit (o ∷ others)) naming i n s ≡ Some t →
    instructions_in journal + n ≤ 2 ^ 35 → IsFar t
