-- A reply to the request that a process waits for can happen.
use Rattle.std.proofs.Common.{◌≡◌, ℕ, zero, suc, pos, ◌+◌, Bool, true, false, List, [], ◌∷◌, length, Option, Some, None, refl, sym, ap, subst, ◌∙◌, rules, tests, if◌then◌else◌}
use Rattle.std.specs.Prelude.{nat_lt, ◌==◌, IsSome, slice_get}
use Rattle.std.proofs.lemmas.List.{append-nil}
use Rattle.styx_msg.specs.Styx.{Fits, r_row, spelling}
use Rattle.styx_msg.specs.declared.message.Rmsg.{Rmsg}
use Rattle.styx_msg.specs.declared.message.Rmsg.TheVariants as reply
use Rattle.styx_decoding.proofs.Frames as frames
use Rattle.process_model.specs.Process.{Doing, Asking, Went, Parks, Polls, Spawns, Asks, Ends}
use Rattle.process_model.specs.Machine as machine
use Rattle.dis_memory.specs.Naming.{naming}
use Rattle.dis_file.specs.declared.object.Object.{Object}
use Rattle.system_model.specs.Values.{Value, int_of}
use Rattle.system_model.specs.World as outside
use Rattle.system_model.specs.Prints.{Writing, Answers, NoReply, hear, took, go_on, refused}
use Rattle.dis_meaning.specs.Process.{Process, Printing}
use Rattle.dis_memory.specs.Process.{Does}
use Rattle.dis_memory.specs.Control.{heard, outside_of}
use Rattle.inf_text.specs.Options.{◌>>=◌}
use Rattle.dis_machine.specs.declared.event.Event.TheVariants as event
use Rattle.dis_machine.specs.Journal.{State, longest, machine_rules, fault_in, unless_faulted, reply_in, has_tag, asker_from, meant, happens}
use Rattle.dis_machine.specs.Taken.{IsReplyTo}
use Rattle.dis_machine.proofs.Replies.{reads_at}
use Rattle.dis_machine.proofs.Hearing.{Goes, hears_goes}

taken_on : (s : State) (a : Rmsg) (e : Does) → Goes e → IsSome (elim (machine.answered s 0 a e) as (λ o. Option State) [ None ↦ None | Some t ↦ Some (machine.cut naming 0 t) ])
taken_on s a (Went x p) g = refl
taken_on s a (Asks x m p) g = refl
taken_on s a (Ends x how) g = refl
taken_on s a (Parks x bs p) g = absurd g
taken_on s a (Polls x bs p q) g = absurd g
taken_on s a (Spawns x p q) g = absurd g

goes_on : (w : outside.World) (total : ℕ) (left : List ℕ) → go_on w total left ≡ NoReply → ⊥
goes_on w total [] e = absurd cc
goes_on w total (b ∷ bs) e = absurd cc

took_some : (w : outside.World) (k : Writing) (count : ℕ) (b : Bool) → (if b then Answers w (int_of (pos (k.written + count))) else go_on w (k.written + count) k.left) ≡ NoReply → ⊥
took_some w k count true e = absurd cc
took_some w k count false e = goes_on w (k.written + count) k.left e

refused_some : (w : outside.World) (written : ℕ) → refused w written ≡ NoReply → ⊥
refused_some w zero e = absurd cc
refused_some w (suc n) e = absurd cc

hear_some : (a : Rmsg) (w : outside.World) (k : Writing) → IsReplyTo k a → hear a w k ≡ NoReply → ⊥
hear_some (reply.Write count) w k le e =
    let short : nat_lt k.asked count ≡ false = search (rules, tests, le) in
    let v = outside.wrote count (outside.end_wait k.tag w) in
    took_some v k count (nat_lt count k.asked) (sym (ap (λ b. if b then NoReply else took v k count) short) ∙ e)
hear_some (reply.Error ename) w k h e = refused_some (outside.end_wait k.tag w) k.written e
hear_some _ w k h e = h

module _ (objects : List Object) (s : State) (p : Process) (k : Printing) (a : Rmsg) (there : s.processes ≡ Asking p ∷ []) (waits : p.printing ≡ Some k) (is : IsReplyTo k.writing a) (fits : Fits k.writing.tag (r_row a)) where
  abbrev bytes : List ℕ
  bytes = spelling k.writing.tag (r_row a)

  read : reply_in bytes ≡ Some (record { tag = k.writing.tag; reply = a })
  read = reads_at bytes k.writing.tag (length bytes) a (frames.begins r_row bytes [] k.writing.tag a fits (sym (append-nil bytes))) refl

  asks : asker_from 0 k.writing.tag s.processes ≡ Some 0
  asks =
      ap (asker_from 0 k.writing.tag) there
      ∙ ap (λ q. if has_tag k.writing.tag q then Some 0 else None) waits
      ∙ ap (λ b. if b then Some 0 else None) (same k.writing.tag)
    where
      same : (n : ℕ) → (n == n) ≡ true
      same n = let e : n ≡ n = refl in search (rules, tests, e)

  means : meant s (event.Reply 1 bytes) ≡ Some (machine.Reply 0 a)
  means =
      ap (λ o. o >>= (λ r. asker_from 0 r.tag s.processes >>= λ i. Some (machine.Reply i r.reply))) read
      ∙ ap (λ o. o >>= λ i. Some (machine.Reply i a)) asks

  abbrev replied : Option (Doing Process Value) → Option State
  replied d = machine.replied (machine_rules objects) naming s 0 a d

  does_go : Goes (heard a s.world p p.printing)
  does_go = subst (λ q. Goes (heard a s.world p q)) (sym waits) (hears_goes s.world p k.place k.at (hear a (outside_of s.world) k.writing) (hear_some a (outside_of s.world) k.writing is))

  pub taken : fault_in s.trace ≡ None → IsSome (happens objects s (event.Reply 1 bytes))
  taken sound =
      let step = ap (λ m. unless_faulted (fault_in s.trace) (m >>= machine.happens (machine_rules objects) naming longest s)) means
      ∙ ap (λ f. unless_faulted f (replied (slice_get s.processes 0))) sound
      ∙ ap (λ ds. replied (slice_get ds 0)) there in
      subst (λ o. IsSome o) (sym step) (taken_on s a (heard a s.world p p.printing) does_go)

pub replies_happen : (objects : List Object) (s : State) (p : Process) (k : Printing) (a : Rmsg) → s.processes ≡ Asking p ∷ [] → p.printing ≡ Some k → fault_in s.trace ≡ None →
    IsReplyTo k.writing a → Fits k.writing.tag (r_row a) → IsSome (happens objects s (event.Reply 1 (spelling k.writing.tag (r_row a))))
replies_happen objects s p k a there waits sound is fits = taken objects s p k a there waits is fits sound
