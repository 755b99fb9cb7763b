-- A process that waits takes the console's reply; and where it asks again, fewer bytes are left to be written.
use Rattle.std.proofs.Common.{◌≡◌, ℕ, zero, suc, ◌+◌, ◌<◌, Bool, true, false, List, [], ◌∷◌, ◌++◌, length, drop, Option, Some, None, refl, sym, ap, subst, ◌∙◌, arith, rules, tests, if◌then◌else◌}
use Rattle.std.proofs.lemmas.List.{append-nil, drop_all, length-drop}
use Rattle.std.specs.Prelude.{nat_lt, nat_eq, ◌==◌, slice_get}
use Rattle.styx_msg.specs.declared.message.Rmsg.{Rmsg}
use Rattle.styx_msg.specs.declared.message.Rmsg.TheVariants as r
use Rattle.styx_msg.specs.Styx.{spelling, r_row, Begins}
use Rattle.process_model.specs.Process.{Went, Parks, Polls, Spawns, Asks, Ends, Ready, Asking, Gone}
use Rattle.process_model.specs.Machine as model
use Rattle.process_model.specs.Machine.{answered, replied}
use Rattle.dis_memory.specs.Naming.{naming}
use Rattle.dis_file.specs.declared.object.Object.{Object}
use Rattle.system_model.specs.Values.{Value}
use Rattle.system_model.specs.World as outside
use Rattle.system_model.specs.World.{wrote, end_wait}
use Rattle.system_model.specs.Prints.{Request, Writing, Answers, Requests, NoReply, hear, took, go_on, refused, ask_piece}
use Rattle.system_model.specs.Prints as prints
use Rattle.dis_meaning.specs.Words.{Access, Found, Wrong, Raises}
use Rattle.dis_meaning.specs.Words as words
use Rattle.dis_meaning.specs.Process.{Process, Printing}
use Rattle.dis_memory.specs.Blocks.{World}
use Rattle.dis_memory.specs.Places.{Memory}
use Rattle.dis_memory.specs.Process.{Does, or_fault}
use Rattle.dis_memory.specs.Control.{answer, heard, hears, outside_of}
use Rattle.inf_text.specs.Options.{◌>>=◌}
use Rattle.dis_machine.specs.declared.event.Event.TheVariants as event
use Rattle.dis_machine.specs.Journal.{State, Fault, Tagged, fault_in, unless_faulted, longest, machine_rules, reply_in, asker, meant, happens}
use Rattle.dis_machine.proofs.Replies.{reads}
use Rattle.machine_host.specs.Replies as host
use Rattle.machine_host.specs.Replies.{IsReply}

-- ---- what a print hears

-- It answers, or asks for less than was left.
abbrev IsHeard : Writing → prints.Printing → Type 0
IsHeard k (Answers w v) = Unit {0}
IsHeard k (Requests w m j) = length j.left < length k.left
IsHeard k NoReply = ⊥

asks_less : (n : ℕ) (b : ℕ) (bs : List ℕ) → length (drop (suc n) (b ∷ bs)) < length (b ∷ bs)
asks_less n b bs = omega (arith, length-drop (suc n) (b ∷ bs))

goes_on : (w : outside.World) (k : Writing) (total : ℕ) (left : List ℕ) → k.left ≡ left → IsHeard k (go_on w total left)
goes_on w k total [] e = tt
goes_on w k total (b ∷ bs) e = let l = asks_less 8191 b bs in let n = ap length e in omega (arith, l, n)

took_so : (w : outside.World) (k : Writing) (count : ℕ) → IsHeard k (took w k count)
took_so w k count = go (nat_lt count k.asked)
  where
    go : (b : Bool) → IsHeard k (if b then Answers w (Rattle.system_model.specs.Values.int_of (Rattle.std.specs.Prelude.pos (k.written + count))) else go_on w (k.written + count) k.left)
    go true = tt
    go false = goes_on w k (k.written + count) k.left refl

refused_so : (w : outside.World) (k : Writing) (n : ℕ) → IsHeard k (refused w n)
refused_so w k zero = tt
refused_so w k (suc n) = tt

hears_so : (reply : Rmsg) (w : outside.World) (k : Writing) → host.Answers k.asked reply → IsHeard k (hear reply w k)
hears_so (r.Write count) w k few =
    let no_more : nat_lt k.asked count ≡ false = search (rules, tests, few) in
    let W = wrote count (end_wait k.tag w) in
    subst (IsHeard k) (sym (ap (λ b. if b then NoReply else took W k count) no_more)) (took_so W k count)
hears_so (r.Error ename) w k few = refused_so (end_wait k.tag w) k k.written
hears_so (r.Version msize version) w k few = absurd few
hears_so (r.Auth aqid) w k few = absurd few
hears_so (r.Attach q) w k few = absurd few
hears_so r.Flush w k few = absurd few
hears_so (r.Walk wqid) w k few = absurd few
hears_so (r.Open q iounit) w k few = absurd few
hears_so (r.Create q iounit) w k few = absurd few
hears_so (r.Read piece) w k few = absurd few
hears_so r.Clunk w k few = absurd few
hears_so r.Remove w k few = absurd few
hears_so (r.Stat stat) w k few = absurd few
hears_so r.Wstat w k few = absurd few

-- ---- what the process does

-- It goes on, or is over, or asks for less.
abbrev IsTaken : Writing → Does → Type 0
IsTaken k (Went x q) = Unit {0}
IsTaken k (Asks x m q) = (a : Printing) × (q.printing ≡ Some a) × (length a.writing.left < length k.left)
IsTaken k (Ends x how) = Unit {0}
IsTaken k (Parks x bs q) = ⊥
IsTaken k (Polls x bs q p) = ⊥
IsTaken k (Spawns x child q) = ⊥

abbrev and_then : {S T : Type 0} → Access S → (S → Access T) → Access T
and_then a f = words.◌>>=◌ a f

stored_so : (k : Writing) (x : World) (p : Process) (m : Access Memory) (f : Memory → World) (g : Memory → Process) →
    IsTaken k (or_fault x p (and_then m (λ m. Found (Went (f m) (g m)))))
stored_so k x p (Found m) f g = tt
stored_so k x p (Wrong n) f g = tt
stored_so k x p (Raises text) f g = tt

answers_so : (k : Writing) (x : World) (p : Process) (a : Printing) (g : prints.Printing) → IsHeard k g → IsTaken k (hears x p a.place a.at g)
answers_so k x p a (Answers w v) is = stored_so k x p _ _ _
answers_so k x p a (Requests w m j) is = (record { writing = j; place = a.place; at = a.at }, refl, is)
answers_so k x p a NoReply is = absurd is

answer_so : (reply : Rmsg) (x : World) (p : Process) (a : Printing) → p.printing ≡ Some a → host.Answers a.writing.asked reply → IsTaken a.writing (answer reply x p)
answer_so reply x p a asks good =
    subst (IsTaken a.writing) (sym (ap (heard reply x p) asks)) (answers_so a.writing x p a (hear reply (outside_of x) a.writing) (hears_so reply (outside_of x) a.writing good))

-- ---- the event

-- The event happens, and where the process asks again it asks for less.
pub record Took (objects : List Object) (s : State) (left : ℕ) (frame : List ℕ) : Type 0 where
  pub after : State
  pub happens : happens objects s (event.Reply 1 frame) ≡ Some after
  pub less : (q : Process) (a : Printing) → slice_get after.processes 0 ≡ Some (Asking q) → q.printing ≡ Some a → length a.writing.left < left

module _ (objects : List Object) where
  by_answer : (s : State) (p : Process) (k : Writing) (reply : Rmsg) (does : Does) → s.processes ≡ Asking p ∷ [] → IsTaken k does →
      (t : State) × ((elim (answered s 0 reply does) as (λ _. Option State) [ None ↦ None | Some t ↦ Some (model.cut naming 0 t) ]) ≡ Some t)
      × ((q : Process) (a : Printing) → slice_get t.processes 0 ≡ Some (Asking q) → q.printing ≡ Some a → length a.writing.left < length k.left)
  by_answer s p k reply (Went x q) one is = (_, refl, λ r a at asks. let w : Some (Ready q) ≡ Some (Asking r) = ap (λ ps. slice_get (Rattle.std.proofs.Math.ListN.set ps 0 (Ready q)) 0) (sym one) ∙ at in absurd cc)
  by_answer s p k reply (Asks x m q) one is = (
    _,
    refl,
    λ r a at asks.
        let w : Some (Asking q) ≡ Some (Asking r) = ap (λ ps. slice_get (Rattle.std.proofs.Math.ListN.set ps 0 (Asking q)) 0) (sym one) ∙ at in
        let same : q ≡ r = cc in
        let both : Some is.0 ≡ Some a = sym is.1 ∙ ap (λ q. q.printing) same ∙ asks in
        let one : is.0 ≡ a = cc in
        subst (λ (a : Printing). length a.writing.left < length k.left) one is.2,
  )
  by_answer s p k reply (Ends x how) one is = (_, refl, λ r a at asks. let w : Some Gone ≡ Some (Asking r) = ap (λ ps. slice_get (Rattle.std.proofs.Math.ListN.set ps 0 Gone) 0) (sym one) ∙ at in absurd cc)
  by_answer s p k reply (Parks x bs q) one is = absurd is
  by_answer s p k reply (Polls x bs q r) one is = absurd is
  by_answer s p k reply (Spawns x child q) one is = absurd is

  pub takes : (s : State) (p : Process) (a : Printing) (frame : List ℕ) → s.processes ≡ Asking p ∷ [] → fault_in s.trace ≡ None → p.printing ≡ Some a →
      IsReply a.writing.tag a.writing.asked frame → Took objects s (length a.writing.left) frame
  takes s p a frame one sound asks is =
      let tag = a.writing.tag in
      let long : length frame ≡ length (spelling tag (r_row is.reply)) = ap length is.spelled in
      let begins : Begins r_row frame tag is.reply (length frame) = record {
        fits = is.fits;
        used_is = long;
        spelled = is.spelled ∙ sym (append-nil (spelling tag (r_row is.reply))) ∙ ap (λ l. spelling tag (r_row is.reply) ++ l) (sym (drop_all (length frame) frame (omega arith)));
      } in
      let read = reads frame tag is.reply begins in
      let under : nat_eq tag tag ≡ true = search (rules, tests) in
      let asked : asker s tag ≡ Some 0 =
      ap (Rattle.dis_machine.specs.Journal.asker_from 0 tag) one
      ∙ ap (λ o. if Rattle.dis_machine.specs.Journal.has_tag tag o then Some 0 else None) asks
      ∙ ap (λ b. if b then Some 0 else None) under in
      let what : meant s (event.Reply 1 frame) ≡ Some (model.Reply 0 is.reply) =
      ap (λ o. o >>= (λ r. asker s r.tag >>= λ i. Some (model.Reply i r.reply))) read ∙ ap (λ o. o >>= λ i. Some (model.Reply i is.reply)) asked in
      let does = answer is.reply s.world p in
      let done = by_answer s p a.writing is.reply does one (answer_so is.reply s.world p a asks is.answers) in
      record {
        after = done.0;
        happens =
            ap (λ f. unless_faulted f (meant s (event.Reply 1 frame) >>= model.happens (machine_rules objects) naming longest s)) sound
            ∙ ap (λ o. o >>= model.happens (machine_rules objects) naming longest s) what
            ∙ ap (λ ps. replied (machine_rules objects) naming s 0 is.reply (slice_get ps 0)) one
            ∙ done.1;
        less = done.2;
      }
