-- A machine's replay is that of process_model: a journal, as events of the processes by their places.
use Rattle.std.specs.Prelude.{◌≡◌, List, [], ◌∷◌, Some, None}
use Rattle.styx_msg.specs.declared.message.Rmsg.{Rmsg}
use Rattle.process_model.specs.Machine as model
use Rattle.dis_memory.specs.Naming.{naming}
use Rattle.process_model.specs.Law.{begins_code}
use Rattle.dis_file.specs.declared.object.Object.{Object}
use Rattle.dis_counts.specs.Opening.{Opened}
use Rattle.dis_machine.specs.declared.event.Event.{Event}
use Rattle.dis_machine.specs.Journal.{State, longest, machine_rules, meant, happens, begins, start_of, state_after}

module _ (objects : List Object) where
  -- The events, each in the state before it.
  abbrev pub translated : State → List Event → List (model.Event Rmsg)
  translated s [] = []
  translated s (e ∷ es) = elim (meant s e) [
    | None ↦ []
    | Some m ↦ m ∷ elim (happens objects s e) [ None ↦ [] | Some t ↦ translated t es ]
  ]

-- What a machine begins with, and its journal's replay: the same that process_model makes of the translation.
pub record Translates (objects : List Object) (journal : List Event) (t : State) : Type 0 where
  pub opened : Opened
  pub opens : start_of objects ≡ Some opened
  pub replays : model.replay (machine_rules objects) naming longest (begins_code opened.world opened.first)
      (translated objects (begins opened) journal) ≡ Some t

abbrev pub JournalsTranslate : Type 0
JournalsTranslate =
    (objects : List Object) (journal : List Event) (t : State) → state_after objects journal ≡ Some t → Translates objects journal t
