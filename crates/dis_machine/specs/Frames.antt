-- The requests of a machine.
use Rattle.std.specs.Prelude.{ℕ, List, [], ◌∷◌, Option, Some, None, ◌==◌, if◌then◌else◌}
use Rattle.process_model.specs.Process.{Requested, Replied, Passed, Over, Released, Lost}
use Rattle.dis_file.specs.declared.object.Object.{Object}
use Rattle.system_model.specs.Prints.{Request}
use Rattle.system_model.specs.Trace.{Trace}
use Rattle.dis_machine.specs.declared.event.Event.{Event}
use Rattle.dis_machine.specs.Journal.{State, state_after}

-- The frame of a request of this link, in front of others.
abbrev pub in_front : (link : ℕ) → Request → List (List ℕ) → List (List ℕ)
in_front link m frames = if m.link == link then m.frame ∷ frames else frames

-- The frames of the requests of a link that were told of, in order.
abbrev pub requests : (link : ℕ) → Trace → List (List ℕ)
requests link [] = []
requests link (Requested i m ∷ es) = in_front link m (requests link es)
requests link (Replied i a ∷ es) = requests link es
requests link (Passed channel v i k j l ∷ es) = requests link es
requests link (Over i how ∷ es) = requests link es
requests link (Released i names ∷ es) = requests link es
requests link (Lost l ∷ es) = requests link es

-- The frames of a journal's requests.
abbrev pub requests_in : (link : ℕ) → Option State → List (List ℕ)
requests_in link None = []
requests_in link (Some s) = requests link s.trace

abbrev pub frames : List Object → List Event → (link : ℕ) → List (List ℕ)
frames objects journal link = requests_in link (state_after objects journal)
