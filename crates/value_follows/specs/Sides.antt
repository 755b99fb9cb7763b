-- Three-address code over values and the machine with the object of a module, as two sides of many processes.
use Rattle.std.specs.Prelude.{ℕ, ◌≡◌, ◌≤◌, [], ◌∷◌}
use Rattle.styx_msg.specs.declared.message.Rmsg.{Rmsg}
use Rattle.process_model.specs.Follows.{Sides}
use Rattle.heap_model.specs.Alike.{Holds}
use Rattle.heap_model.specs.Contents.{Contents}
use Rattle.heap_model.specs.Joined as heaps
use Rattle.heap_model.specs.Joined.{Parts}
use Rattle.heap_model.specs.Worlds.{blocks}
use Rattle.limbo_typed.specs.Typed as typed
use Rattle.system_model.specs.Limits.{frames_limit}
use Rattle.system_model.specs.Values as system
use Rattle.system_model.specs.World as outside
use Rattle.system_model.specs.Prints.{Request}
use Rattle.system_model.specs.Ending.{Ending}
use Rattle.limbo_meaning.specs.Values as source
use Rattle.limbo_meaning.specs.Memory.{HeapValue}
use Rattle.limbo_meaning.specs.Process.{Shared, table_names}
use Rattle.core_code.specs.Code.{Program}
use Rattle.core_code.specs.Machine as code
use Rattle.dis_meaning.specs.Process.{Process}
use Rattle.dis_memory.specs.Blocks.{Block, Outer, World, Instance}
use Rattle.dis_memory.specs.Naming as machine
use Rattle.dis_memory.specs.Rules as dis
use Rattle.value_words.specs.Forms.{Form}
use Rattle.value_words.specs.Facts.{Facts}
use Rattle.value_heaps.proofs.Contents as heap
use Rattle.value_code.specs.Objects.{globals, functions, constants, object_of}
use Rattle.value_follows.specs.Stands.{Ready, Asking}

-- The machine has one object; an instance is one of it.
abbrev pub IsOfFirst : Block → Type 0
IsOfFirst (Instance object words) = object ≡ 0
IsOfFirst b = Unit {0}

module _ (m : typed.Module) where
  -- The module's functions, as three-address code.
  abbrev pub program : Program
  program = record { adts = m.adts; functions = functions m }

  abbrev pub of_values : Contents HeapValue Block Form
  of_values = heap.contents m.adts (globals m) (constants m)

  -- What blocks stand for, where instances are those of the one object.
  abbrev pub contents : Contents HeapValue Block Form
  contents = record {
    inside = of_values.inside;
    words = of_values.words;
    text = of_values.text;
    part = of_values.part;
    stands = λ k n v b. of_values.stands k n v b × IsOfFirst b;
    text_names = of_values.text_names;
    part_names = of_values.part_names;
    part_only = of_values.part_only;
    grows = λ k l n v b g s. (of_values.grows k l n v b g s.0, s.1);
    to = λ k n v b a s h. of_values.to k n v b a s.0 h;
    from = λ k n v b q s h. of_values.from k n v b q s.0 h;
  }

  -- Two processes hold the same: what the one names is what the other refers to, and no block of others.
  abbrev pub HoldTheSame : Facts → ℕ → World → code.Process → Process → Type 0
  HoldTheSame k i x p q = Holds k (λ j. j ≡ i) (blocks contents x.heap) (code.process_names p) (machine.names q)

  -- Both outsides are one; the machine counts its frames beside it, and never fewer.
  abbrev pub parts : Parts HeapValue Block Form outside.World Outer code.Process Process source.Value system.Value Request Rmsg Ending
  parts = record {
    contents = contents;
    outsides = λ w x. x.outside ≡ w;
    later = λ x y. x.frames ≤ y.frames;
    program = code.rules frames_limit program;
    code = dis.rules frames_limit (object_of m ∷ []);
    names = code.process_names;
    table = table_names;
    words = machine.names;
    table_words = machine.held;
    value = λ k v u. ⊥;
    ready = λ k i x p q. Ready m k i x p q × HoldTheSame k i x p q;
    asking = λ k i x p q. Asking m k i x p q × HoldTheSame k i x p q;
    waiting = λ k i x bs cs p q. ⊥;
  }

  abbrev pub sides : Sides Facts Shared World code.Process Process source.Value system.Value Request Rmsg Ending
  sides = heaps.sides parts
