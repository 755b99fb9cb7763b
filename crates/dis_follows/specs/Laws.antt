-- What holds of the object of every proper module.
use Rattle.std.specs.Prelude.{ℕ, ◌≡◌, ◌<◌, false, [], ◌∷◌, length, Some, slice_get}
use Rattle.process_model.specs.Process.{Ends}
use Rattle.process_model.specs.Follows.{Follows}
use Rattle.limbo_values.specs.declared.number.Kind.{Kind}
use Rattle.system_model.specs.Values.{Num}
use Rattle.system_model.specs.World.{opening_world}
use Rattle.system_model.specs.Ending.{Faulted}
use Rattle.system_model.specs.Limits.{frames_limit}
use Rattle.typed_meaning.specs.Values.{number_of}
use Rattle.typed_meaning.specs.World as source
use Rattle.typed_meaning.specs.World.{instance_of, global_of}
use Rattle.slot_code.specs.Code.{Function, GlobalVariable, Module}
use Rattle.slot_code.specs.Machine as machine
use Rattle.slot_code.specs.Rules as slot_rules
use Rattle.dis_meaning.specs.World.{World}
use Rattle.dis_meaning.specs.Process.{Process}
use Rattle.dis_meaning.specs.Step.{step}
use Rattle.dis_meaning.specs.Opening.{opened}
use Rattle.dis_objects.specs.Spelled.{AreSpelled}
use Rattle.dis_objects.specs.Objects.{init_of, object_of}
use Rattle.dis_follows.specs.Start.{opening, first_process}
use Rattle.dis_follows.specs.Standing.{standing_at}
use Rattle.dis_follows.specs.Stands.{Known, Ready, WorldStands, sides}

-- At first Sys isn't loaded, and the first process has the only frame.
abbrev pub at_first : Known
at_first = record { loaded = false; frames = 1 }

-- A world as a module begins in it: its variables have the numbers that it gives them.
pub record IsOpening (m : Module) (w : source.World) : Type 0 where
  pub outside : w.outside ≡ opening_world
  pub some : 0 < length w.instances
  pub many : length (instance_of w 0) ≡ length m.globals
  pub values : (x : ℕ) (k : Kind) (g : GlobalVariable) → slice_get m.globals x ≡ Some g → g.kind ≡ Some k
      → number_of k (global_of w 0 x) ≡ Num g.initial

-- The object follows the module's code: whatever a process of the object does next, the other does too, after some steps of its own. Of
-- eight instructions in a row at least one stands for a step. Both begin alike, where the module has an `init`.
pub record Keeps (m : Module) : Type 0 where
  pub follows : Follows (sides m)
  pub pace : follows.bound ≡ 8
  pub begins : (init : ℕ) (f : Function) → init_of m ≡ Some init → slice_get m.functions init ≡ Some f
      → Ready m at_first (slot_rules.first_process init f) (first_process m)
  pub begins_in : (w : source.World) → IsOpening m w → WorldStands m at_first w (opening m)

-- A process of the object tells at which instruction of which function the other is.
abbrev pub Tells : Module → Type 0
Tells m =
    (k : Known) (p : machine.Process) (r : Process) → Ready m k p r
    → standing_at m r ≡ record { function = p.frame.function; pc = p.frame.pc }

-- No instruction of it is ever wrong.
abbrev pub NeverFaults : Module → Type 0
NeverFaults m =
    (k : Known) (w : source.World) (x y : World) (p : machine.Process) (r : Process) (number pc : ℕ)
    → Ready m k p r → WorldStands m k w x → step frames_limit (object_of m ∷ []) x r ≡ Ends y (Faulted number pc) → ⊥

-- A machine of the object begins with the opening, where its strings are such as a machine reads.
abbrev pub Opens : Module → Type 0
Opens m = AreSpelled (object_of m).items → opened (object_of m) ≡ Some (record { world = opening m; first = first_process m })
