-- What a reply came to, as the definition has it, and what memory is behind it.
use Rattle.std.specs.Prelude.{◌≡◌, Bool, true, false, []}
use Rattle.process_model.specs.Process.{Went, Parks, Asks, Ends}
use Rattle.system_model.specs.Ending.{Faulted}
use Rattle.sys_print.specs.Printing.{view_request}
use Rattle.dis_memory.specs.Blocks.{World}
use Rattle.dis_memory.specs.Process.{Does}
use Rattle.dis_places.specs.declared.memory.Memory.{Memory}
use Rattle.dis_places.specs.declared.process.Process.{Process}
use Rattle.dis_places.specs.View.{view_process, view_world}
use Rattle.dis_places.specs.Words.{number_of}
use Rattle.dis_stores.specs.Storing.{Settles}
use Rattle.dis_prints.specs.declared.heard.Heard.{Heard}
use Rattle.dis_prints.specs.declared.heard.Heard.TheVariants as heard
use Rattle.dis_steps.specs.Ending.{LetsGo}

-- A process that goes on or asks again leaves memory as after the definition's reply and its cut; one that has no place for the answer is
-- over, and has let go of all that it referred to. A reply that is refused lets the process stand still, and all is as it was; so it is
-- where memory was wanting.
abbrev pub Replies : Memory → Process → Heard → Does → Memory → Process → Type 0
Replies m p heard.Went does m' p' = (x : World) × (does ≡ Went x (view_process p')) × Settles m p x m' p'
Replies m p (heard.Asked r) does m' p' = (x : World) × (does ≡ Asks x (view_request r) (view_process p')) × Settles m p x m' p'
Replies m p (heard.Fault f) does m' p' =
    (does ≡ Ends (view_world m) (Faulted (number_of f) p.frame.pc)) × LetsGo m p (view_world m) m'
Replies m p heard.Refused does m' p' = (does ≡ Parks (view_world m) [] (view_process p)) × (m' ≡ m) × (p' ≡ p)
Replies m p heard.NoMemory does m' p' = (m' ≡ m) × (p' ≡ p)

-- Whether there was no place for the answer.
abbrev pub is_fault : Heard → Bool
is_fault (heard.Fault f) = true
is_fault _ = false

-- A process that had no place for its answer has let go of all that it referred to. Else memory is as it was.
abbrev pub Cleared : Heard → Memory → Process → Memory → Type 0
Cleared (heard.Fault f) m p m' = LetsGo m p (view_world m) m'
Cleared _ m p m' = m' ≡ m
