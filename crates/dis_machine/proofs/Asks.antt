-- What is to be handed over after an instruction, and after a reply.
use Rattle.std.proofs.Common.{◌≡◌, ◌≢◌, ℕ, true, List, [], ◌∷◌, ◌++◌, Option, Some, None, refl, ap, ◌∙◌, append-nil, rules, tests, if◌then◌else◌}
use Rattle.std.specs.Prelude.{◌==◌}
use Rattle.sys_print.specs.declared.writing.Request.{Request}
use Rattle.sys_print.specs.Printing.{view_request}
use Rattle.dis_places.specs.declared.process.Asking.{Asking}
use Rattle.dis_calls.specs.Coming.{IsAsked}
use Rattle.dis_machine.specs.declared.doing.Doing.TheVariants as doing
use Rattle.dis_machine.specs.declared.running.Turn.{Turn}
use Rattle.dis_machine.specs.declared.running.Turn.TheVariants as turn
use Rattle.dis_machine.specs.Frames.{in_front, requests}
use Rattle.dis_machine.specs.Running.{told_by, stands_after, stands_heard, Sent}
use Rattle.dis_machine.specs.Standing.{AsksMore}

one_more : (old new : List (List ℕ)) (m : Request) (p : Option Asking) → IsAsked m p → new ≡ old ++ in_front 1 (view_request m) [] → AsksMore old new doing.Asking p
one_more old new m None sent e = absurd sent
one_more old new m (Some a) sent e =
    let over : (m.link == 1) ≡ true = search (rules, tests, sent.0) in
    (m.frame.items, e ∙ ap (λ b. old ++ (if b then m.frame.items ∷ [] else [])) over, sent.1)

-- After an instruction.
pub after_turn : (old new : List (List ℕ)) (t : Turn) (p : Option Asking) → t ≢ turn.NoMemory → Sent t p → new ≡ old ++ requests 1 (told_by t) → AsksMore old new (stands_after t) p
after_turn old new turn.Went p went sent e = e ∙ append-nil old
after_turn old new (turn.Asked m) p went sent e = one_more old new m p sent e
after_turn old new turn.Ended p went sent e = e ∙ append-nil old
after_turn old new (turn.Broken text) p went sent e = e ∙ append-nil old
after_turn old new (turn.Fault number pc) p went sent e = e ∙ append-nil old
after_turn old new turn.NoMemory p went sent e = absurd (went refl)

-- After a reply.
pub after_reply : (old new : List (List ℕ)) (t : Turn) (p : Option Asking) → t ≢ turn.NoMemory → Sent t p → new ≡ old ++ requests 1 (told_by t) → AsksMore old new (stands_heard t) p
after_reply old new turn.Went p went sent e = e ∙ append-nil old
after_reply old new (turn.Asked m) p went sent e = one_more old new m p sent e
after_reply old new turn.Ended p went sent e = e ∙ append-nil old
after_reply old new (turn.Broken text) p went sent e = e ∙ append-nil old
after_reply old new (turn.Fault number pc) p went sent e = e ∙ append-nil old
after_reply old new turn.NoMemory p went sent e = absurd (went refl)
