-- What an exchange with the console leaves.
use Rattle.std.proofs.Common.{◌≡◌, ◌≢◌, ◌<◌, ◌+◌, ◌⊎◌, ℕ, suc, Bool, true, false, List, [], ◌∷◌, ◌++◌, length, take, Option, Some, None, refl, sym, ap, subst, ◌∙◌, arith, append_assoc, length-append, inl, inr, if◌then◌else◌, Result, Ok, Err}
use Rattle.std.specs.Prelude as std
use Rattle.std.specs.Prelude.{◌==◌, MatchOption, slice_get}
use Rattle.std.specs.Option.{option_map}
use Rattle.std.specs.Io.KnownBytes.{Keeps}
use Rattle.std.proofs.KnownBytes.{Appends-trans, Appends-kept}
use Rattle.std.proofs.lemmas.List.{take_all, append-nil}
use Rattle.styx_msg.specs.declared.message.Tmsg.{Tmsg}
use Rattle.styx_msg.specs.declared.message.Tmsg.TheVariants as t
use Rattle.styx_msg.specs.declared.message.Rmsg.{Rmsg}
use Rattle.styx_msg.specs.declared.message.Rmsg.TheVariants as r
use Rattle.styx_msg.specs.Styx.{r_row, Fits}
use Rattle.process_model.specs.Process as model
use Rattle.dis_meaning.specs.Process.{Process, Printing}
use Rattle.sys_print.specs.Sent.{IsSent}
use Rattle.dis_places.specs.declared.process.Asking.{Asking}
use Rattle.dis_places.specs.View.{view_process, view_asking}
use Rattle.dis_steps.specs.Codes.{objects_of}
use Rattle.dis_machine.specs.declared.event.Event.TheVariants as event
use Rattle.dis_machine.specs.declared.machine.Machine.{Machine}
use Rattle.dis_machine.specs.declared.doing.Doing.{Doing}
use Rattle.dis_machine.specs.declared.doing.Doing.TheVariants as doing
use Rattle.dis_machine.specs.Journal.{fault_in, happens, state_of, quanta}
use Rattle.dis_machine.specs.Frames.{requests}
use Rattle.dis_machine.specs.Doings.{view_doing}
use Rattle.dis_machine.specs.Kept.{view_fault}
use Rattle.dis_machine.specs.declared.reply.ReplyFault.{ReplyFault}
use Rattle.dis_machine.specs.declared.reply.ReplyFault.TheVariants.{NoMemory, Refused}
use Rattle.dis_machine.specs.Standing.{codes, told, state, waiting, Entered, IsRefused, OnlyOutbox, AsksMore}
use Rattle.dis_machine.proofs.Entering as entering
use Rattle.console_server.specs.Console.{Writes, Exchange, Serves, output_of}
use Rattle.console_server.specs.Exchange.{IsRequest, IsServed}
use Rattle.machine_host.specs.Replies as host
use Rattle.machine_host.specs.Replies.{IsReply}
use Rattle.machine_host.specs.Talk.{Talk, Heard, replies_of, left_of, left_in, left, Pends, Calm, SameQuanta}
use Rattle.machine_host.proofs.Taken.{Took, takes}
use Rattle.machine_host.proofs.Served.{replies_append, serves_more}

-- ---- the request, and the reply

abbrev pub request_of : {f : List ℕ} {tag asked : ℕ} → IsSent f tag asked → Tmsg
request_of s = t.Write s.fid s.offset s.piece

pub is_request : (f : List ℕ) (tag asked : ℕ) (s : IsSent f tag asked) → IsRequest f tag (request_of s)
is_request f tag asked s = record { fits = s.fits; spelled = s.spelled }

writes_answer : (before : Bool) (piece : List ℕ) (reply : Rmsg) (bytes : List ℕ) (failed : Bool) → Writes before piece reply bytes failed → host.Answers (length piece) reply
writes_answer false piece (r.Write count) bytes failed w = omega (arith, w.0)
writes_answer false piece (r.Error ename) bytes failed w = tt
writes_answer true piece (r.Error ename) bytes failed w = tt
writes_answer true piece (r.Write count) bytes failed w = absurd w
writes_answer false piece (r.Version msize version) bytes failed w = absurd w
writes_answer false piece (r.Auth aqid) bytes failed w = absurd w
writes_answer false piece (r.Attach q) bytes failed w = absurd w
writes_answer false piece r.Flush bytes failed w = absurd w
writes_answer false piece (r.Walk wqid) bytes failed w = absurd w
writes_answer false piece (r.Open q iounit) bytes failed w = absurd w
writes_answer false piece (r.Create q iounit) bytes failed w = absurd w
writes_answer false piece (r.Read data_read) bytes failed w = absurd w
writes_answer false piece r.Clunk bytes failed w = absurd w
writes_answer false piece r.Remove bytes failed w = absurd w
writes_answer false piece (r.Stat stat) bytes failed w = absurd w
writes_answer false piece r.Wstat bytes failed w = absurd w
writes_answer true piece (r.Version msize version) bytes failed w = absurd w
writes_answer true piece (r.Auth aqid) bytes failed w = absurd w
writes_answer true piece (r.Attach q) bytes failed w = absurd w
writes_answer true piece r.Flush bytes failed w = absurd w
writes_answer true piece (r.Walk wqid) bytes failed w = absurd w
writes_answer true piece (r.Open q iounit) bytes failed w = absurd w
writes_answer true piece (r.Create q iounit) bytes failed w = absurd w
writes_answer true piece (r.Read data_read) bytes failed w = absurd w
writes_answer true piece r.Clunk bytes failed w = absurd w
writes_answer true piece r.Remove bytes failed w = absurd w
writes_answer true piece (r.Stat stat) bytes failed w = absurd w
writes_answer true piece r.Wstat bytes failed w = absurd w

answers_write : (before : Bool) (piece : List ℕ) (o : Option (List ℕ)) (reply : Rmsg) (bytes : List ℕ) (failed : Bool) → (o ≡ None) ⊎ (o ≡ Some piece) →
    MatchOption o ((reply ≡ r.Error (std.codes "unknown fid")) × (bytes ≡ []) × (failed ≡ before)) (λ piece. Writes before piece reply bytes failed) → host.Answers (length piece) reply
answers_write before piece None reply bytes failed which a = subst (host.Answers (length piece)) (sym a.0) tt
answers_write before piece (Some p) reply bytes failed (inl e) a = absurd cc
answers_write before piece (Some p) reply bytes failed (inr e) a = let same : p ≡ piece = cc in subst (λ p. host.Answers (length p) reply) same (writes_answer before p reply bytes failed a)

either : (b : Bool) (piece : List ℕ) → ((if b then Some piece else None) ≡ None) ⊎ ((if b then Some piece else None) ≡ Some piece)
either true piece = inr refl
either false piece = inl refl

pub is_reply : (before failed : Bool) (f : List ℕ) (tag asked : ℕ) (s : IsSent f tag asked) (reply : List ℕ) (old new : Option (List ℕ)) (served : IsServed before tag (request_of s) reply failed old new) →
    Fits tag (r_row served.reply) → IsReply tag asked reply
is_reply before failed f tag asked s reply old new served fits = record {
  reply = served.reply;
  fits = fits;
  spelled = served.frame_is;
  answers = subst (λ n. host.Answers n served.reply) (sym s.long)
      (answers_write before s.piece (output_of (request_of s)) served.reply served.bytes failed (either (s.fid == 2) s.piece) served.answers);
}

-- ---- the machine takes it

pub took : (m : Machine) (a : Asking) (reply : List ℕ) → m.running.doing ≡ doing.Asking → m.running.process.printing ≡ Some a → IsReply a.writing.tag a.writing.asked reply →
    Took (codes m) (state m) (length a.writing.left.items) reply
took m a reply asks waits is =
    let live : m.running.doing ≢ doing.Gone = (λ e. let bad : doing.Asking ≡ doing.Gone = sym asks ∙ e in absurd cc) in
    let sound : fault_in (told m) ≡ None = sym m.kept.keeps.fault ∙ ap (option_map view_fault) (m.kept.sound live) in
    takes (codes m) (state m) (view_process m.running.process) (view_asking a) reply
    (ap (λ d. view_doing d (view_process m.running.process) ∷ []) asks)
    sound
    (ap (option_map view_asking) waits)
    is

pub not_refused : (m : Machine) (a : Asking) (reply : List ℕ) → m.running.doing ≡ doing.Asking → m.running.process.printing ≡ Some a → IsReply a.writing.tag a.writing.asked reply →
    happens (codes m) (state m) (event.Reply 1 reply) ≡ None → ⊥
not_refused m a reply asks waits is refused =
    let t = took m a reply asks waits is in
    let bad : None ≡ Some t.after = sym refused ∙ t.happens in
    absurd cc

-- Where it asks again, it asks for less.
pub asks_less : (m n : Machine) (a : Asking) (reply : List ℕ) → m.running.doing ≡ doing.Asking → m.running.process.printing ≡ Some a → IsReply a.writing.tag a.writing.asked reply →
    m.lacks ≡ false → n.lacks ≡ false → Entered m n (event.Reply 1 reply) → left n < suc (length a.writing.left.items)
asks_less m n a reply asks waits is able still e =
    let t = took m a reply asks waits is in
    let led : state_of (codes m) m.journal.items None ≡ Some (state m) = ap (state_of (codes m) m.journal.items) (sym (m.kept.whole able)) ∙ m.kept.leads in
    let one : state_of (codes m) (m.journal.items ++ event.Reply 1 reply ∷ []) None ≡ Some t.after = entering.entered (codes m) m.journal.items (event.Reply 1 reply) (state m) t.after led t.happens in
    let other : state_of (codes n) n.journal.items None ≡ Some (state n) = ap (state_of (codes n) n.journal.items) (sym (n.kept.whole still)) ∙ n.kept.leads in
    let same : Some t.after ≡ Some (state n) = sym one ∙ ap (λ js. state_of (codes m) js None) (sym e.journal) ∙ ap (λ cs. state_of (objects_of cs.items) n.journal.items None) (sym e.same.0) ∙ other in
    let after : t.after ≡ state n = cc in
    by_doing n.running.doing n.running.process.printing refl refl t.less after
  where
    by_doing : (d : Doing) (p : Option Asking) → n.running.doing ≡ d → n.running.process.printing ≡ p →
        ((q : Process) (b : Printing) → slice_get (Took.after (took m a reply asks waits is)).processes 0 ≡ Some (model.Asking q) → q.printing ≡ Some b → length b.writing.left < length a.writing.left.items) →
        Took.after (took m a reply asks waits is) ≡ state n → left_in n.running.doing n.running.process.printing < suc (length a.writing.left.items)
    by_doing doing.Ready p d w less after = let z = ap (λ d. left_in d n.running.process.printing) d in omega (arith, z)
    by_doing doing.Gone p d w less after = let z = ap (λ d. left_in d n.running.process.printing) d in omega (arith, z)
    by_doing doing.Asking None d w less after = let z : left_in n.running.doing n.running.process.printing ≡ 0 = ap (λ d. left_in d n.running.process.printing) d ∙ ap left_of w in omega (arith, z)
    by_doing doing.Asking (Some b) d w less after =
        let z : left_in n.running.doing n.running.process.printing ≡ suc (length b.writing.left.items) = ap (λ d. left_in d n.running.process.printing) d ∙ ap left_of w in
        let stands = ap (λ s. slice_get s.processes 0) after ∙ ap (λ d. Some (view_doing d (view_process n.running.process))) d in
        let fewer = less (view_process n.running.process) (view_asking b) stands (ap (option_map view_asking) w) in
        omega (arith, z, fewer)

-- ---- what was said

exchange_is : (before failed : Bool) (f : List ℕ) (tag asked : ℕ) (s : IsSent f tag asked) (reply : List ℕ) (old new : Option (List ℕ)) (served : IsServed before tag (request_of s) reply failed old new) → Exchange before f reply served.bytes failed
exchange_is before failed f tag asked s reply old new served =
    record { tag = tag; asked = request_of s; answered = served.reply; request_is = s.spelled; reply_is = served.frame_is; answers = served.answers }

-- The reply was entered.
pub went : (m n : Machine) (f reply : List ℕ) (tag asked : ℕ) (s : IsSent f tag asked) (start old new : Option (List ℕ)) (before failed : Bool) → IsServed before tag (request_of s) reply failed old new →
    waiting m 1 ≡ [] → n.lacks ≡ false → Entered m n (event.Reply 1 reply) → Talk m (f ∷ []) start old before → Talk n (waiting n 1) start new failed
went m n f reply tag asked s start old new before failed served handed able e talk =
    let more = (e.asked 1).more in
    let all : waiting n 1 ≡ more = (e.asked 1).outbox ∙ ap (λ l. l ++ more) handed in
    let replies : replies_of n.journal.items ≡ replies_of m.journal.items ++ reply ∷ [] = ap replies_of e.journal ∙ replies_append m.journal.items (event.Reply 1 reply ∷ []) in
    record {
      able = able;
      answered = talk.answered ++ f ∷ [];
      asked = (e.asked 1).asked ∙ ap (λ l. l ++ more) talk.asked ∙ ap (λ l. (talk.answered ++ f ∷ []) ++ l) (sym all);
      bytes = talk.bytes ++ served.bytes;
      served = subst (λ rs. Serves false (talk.answered ++ f ∷ []) rs (talk.bytes ++ served.bytes) failed) (sym replies)
          (serves_more false talk.answered (replies_of m.journal.items) talk.bytes before f reply served.bytes failed talk.served (exchange_is before failed f tag asked s reply old new served));
      grown = Appends-trans start old new talk.bytes served.bytes talk.grown served.grown;
    }

same_take : (l : List (List ℕ)) → l ≡ take (length l) l
same_take l = sym (take_all (length l) l (omega arith))

front_take : (l more : List (List ℕ)) → l ≡ take (length l) (l ++ more)
front_take [] more = refl
front_take (x ∷ l) more = ap (λ l. x ∷ l) (front_take l more)

-- Memory ran out before the request was served.
pub unserved : (m : Machine) (f : List ℕ) (start old new : Option (List ℕ)) (before failed : Bool) → failed ≡ before → Keeps old new → Talk m (f ∷ []) start old before → Heard m start new failed
unserved m f start old new before failed same keeps talk = record {
  answered = talk.answered;
  rest = f ∷ [];
  asked = talk.asked;
  answers = replies_of m.journal.items;
  bytes = talk.bytes;
  served = subst (λ b. Serves false talk.answered (replies_of m.journal.items) talk.bytes b) (sym same) talk.served;
  entered = same_take (replies_of m.journal.items);
  near = omega arith;
  grown = Appends-kept start old new talk.bytes talk.grown keeps;
}

-- Memory ran out after it, so that its reply wasn't entered.
pub unentered : (m n : Machine) (f reply : List ℕ) (tag asked : ℕ) (s : IsSent f tag asked) (start old new : Option (List ℕ)) (before failed : Bool) → IsServed before tag (request_of s) reply failed old new →
    n.journal.items ≡ m.journal.items → told n ≡ told m → Talk m (f ∷ []) start old before → Heard n start new failed
unentered m n f reply tag asked s start old new before failed served journal same talk =
    let replies : replies_of n.journal.items ≡ replies_of m.journal.items = ap replies_of journal in
    let rs = replies_of m.journal.items in
    record {
      answered = talk.answered ++ f ∷ [];
      rest = [];
      asked = ap (requests 1) same ∙ talk.asked ∙ sym (append-nil (talk.answered ++ f ∷ []));
      answers = rs ++ reply ∷ [];
      bytes = talk.bytes ++ served.bytes;
      served = serves_more false talk.answered rs talk.bytes before f reply served.bytes failed talk.served (exchange_is before failed f tag asked s reply old new served);
      entered = replies ∙ front_take rs (reply ∷ []) ∙ ap (λ l. take (length l) (rs ++ reply ∷ [])) (sym replies);
      near = let n = ap length replies in let l = length-append rs (reply ∷ []) in omega (arith, n, l);
      grown = Appends-trans start old new talk.bytes served.bytes talk.grown served.grown;
    }

-- ---- refusals

pub only_memory : (m : Machine) (link : ℕ) (frame : List ℕ) (fault : ReplyFault) → IsRefused m link frame fault → (happens (codes m) (state m) (event.Reply link frame) ≡ None → ⊥) → fault ≡ NoMemory
only_memory m link frame NoMemory is never = refl
only_memory m link frame (Refused back) is never = absurd (never is.1)

pub on_fault : {T E : Type 0} (r : Result T E) (P : Type 0) → P → std.OnErr r P
on_fault (Ok x) P p = tt
on_fault (Err e) P p = p

-- ---- quanta

pub same_quanta : (m n : Machine) (reply : List ℕ) → Entered m n (event.Reply 1 reply) → SameQuanta m n
same_quanta m n reply e = ap quanta e.journal ∙ entering.quanta_more m.journal.items (event.Reply 1 reply) ∙ omega arith

-- ---- the oldest request

-- Where a request is to be handed over it is that of the print that waits, and the only one.
pub record Oldest (m n : Machine) (f : List ℕ) : Type 0 where
  pub asking : n.running.doing ≡ doing.Asking
  pub handed : waiting n 1 ≡ []
  pub sent : (a : Asking) × (n.running.process.printing ≡ Some a) × IsSent f a.writing.tag a.writing.asked
  pub all : waiting m 1 ≡ f ∷ []

pub oldest : (m n : Machine) (f : List ℕ) → Pends m → waiting m 1 ≡ f ∷ waiting n 1 → n.running ≡ m.running → Oldest m n f
oldest m n f pends first same = by_doing m.running.doing m.running.process.printing refl refl pends
  where
    by_doing : (d : Doing) (p : Option Asking) → m.running.doing ≡ d → m.running.process.printing ≡ p → AsksMore [] (waiting m 1) d p → Oldest m n f
    by_doing doing.Ready p d w none = let bad : f ∷ waiting n 1 ≡ [] = sym first ∙ none in absurd cc
    by_doing doing.Gone p d w none = let bad : f ∷ waiting n 1 ≡ [] = sym first ∙ none in absurd cc
    by_doing doing.Asking None d w none = absurd none
    by_doing doing.Asking (Some a) d w one =
        let both : f ∷ waiting n 1 ≡ one.0 ∷ [] = sym first ∙ one.1 in
        let it : one.0 ≡ f = cc in
        let rest : waiting n 1 ≡ [] = cc in
        record {
          asking = ap (λ r. r.doing) same ∙ d;
          handed = rest;
          sent = (a, ap (λ r. r.process.printing) same ∙ w, subst (λ f. IsSent f a.writing.tag a.writing.asked) it one.2);
          all = first ∙ ap (λ l. f ∷ l) rest;
        }

-- It was taken from the outbox, and is what is left.
pub taken : (m n : Machine) (f : List ℕ) (start now : Option (List ℕ)) (failed : Bool) → OnlyOutbox m n → Oldest m n f → Talk m (waiting m 1) start now failed → Talk n (f ∷ []) start now failed
taken m n f start now failed only o talk = record {
  able = only.lacks ∙ talk.able;
  answered = talk.answered;
  asked = ap (λ s. requests 1 s.trace) only.state ∙ talk.asked ∙ ap (λ l. talk.answered ++ l) o.all;
  bytes = talk.bytes;
  served = subst (λ js. Serves false talk.answered (replies_of js) talk.bytes failed) (sym only.journal) talk.served;
  grown = talk.grown;
}

-- None is to be handed over.
pub calm : (m n : Machine) → Pends m → waiting m 1 ≡ [] → waiting n 1 ≡ [] → n.running ≡ m.running → Calm n
calm m n pends none now same = record { handed = now; free = λ asks. by_printing m.running.process.printing (subst (λ d. AsksMore [] (waiting m 1) d m.running.process.printing) (sym (ap (λ r. r.doing) same) ∙ asks) pends) }
  where
    by_printing : (p : Option Asking) → AsksMore [] (waiting m 1) doing.Asking p → ⊥
    by_printing None one = one
    by_printing (Some a) one = let bad : [] ≡ one.0 ∷ [] = sym none ∙ one.1 in absurd cc

pub still : (m n : Machine) (start now : Option (List ℕ)) (failed : Bool) → OnlyOutbox m n → waiting m 1 ≡ [] → waiting n 1 ≡ [] → Talk m (waiting m 1) start now failed → Talk n (waiting n 1) start now failed
still m n start now failed only none now_none talk = record {
  able = only.lacks ∙ talk.able;
  answered = talk.answered;
  asked = ap (λ s. requests 1 s.trace) only.state ∙ talk.asked ∙ ap (λ l. talk.answered ++ l) (none ∙ sym now_none);
  bytes = talk.bytes;
  served = subst (λ js. Serves false talk.answered (replies_of js) talk.bytes failed) (sym only.journal) talk.served;
  grown = talk.grown;
}

pub pends_on : (m n : Machine) → Calm n → Pends n
pends_on m n calm = by_doing n.running.doing refl
  where
    by_doing : (d : Doing) → n.running.doing ≡ d → AsksMore [] (waiting n 1) n.running.doing n.running.process.printing
    by_doing doing.Ready d = subst (λ d. AsksMore [] (waiting n 1) d n.running.process.printing) (sym d) calm.handed
    by_doing doing.Gone d = subst (λ d. AsksMore [] (waiting n 1) d n.running.process.printing) (sym d) calm.handed
    by_doing doing.Asking d = absurd (calm.free d)

pub left_is : (m : Machine) → m.running.doing ≡ doing.Asking → left m ≡ left_of m.running.process.printing
left_is m asks = ap (λ d. left_in d m.running.process.printing) asks

-- ---- a quantum

pub quantum_talk : (m n : Machine) (pid count : ℕ) (start now : Option (List ℕ)) (failed : Bool) → Entered m n (event.Quantum pid count) → n.lacks ≡ false → Talk m (waiting m 1) start now failed → Talk n (waiting n 1) start now failed
quantum_talk m n pid count start now failed e able talk =
    let more = (e.asked 1).more in
    let replies : replies_of n.journal.items ≡ replies_of m.journal.items = ap replies_of e.journal ∙ replies_append m.journal.items (event.Quantum pid count ∷ []) ∙ append-nil (replies_of m.journal.items) in
    record {
      able = able;
      answered = talk.answered;
      asked = (e.asked 1).asked ∙ ap (λ l. l ++ more) talk.asked ∙ append_assoc talk.answered (waiting m 1) more ∙ ap (λ l. talk.answered ++ l) (sym (e.asked 1).outbox);
      bytes = talk.bytes;
      served = subst (λ rs. Serves false talk.answered rs talk.bytes failed) (sym replies) talk.served;
      grown = talk.grown;
    }

pub one_quantum : (m n : Machine) (pid count : ℕ) → Entered m n (event.Quantum pid count) → quanta n.journal.items ≡ quanta m.journal.items + 1
one_quantum m n pid count e = ap quanta e.journal ∙ entering.quanta_more m.journal.items (event.Quantum pid count)

pub ok_map : {T E : Type 0} (r : Result T E) (P Q : Type 0) → (P → Q) → std.OnOk r P → std.OnOk r Q
ok_map (Ok x) P Q f p = f p
ok_map (Err e) P Q f p = tt

pub err_map : {T E : Type 0} (r : Result T E) (P Q : Type 0) → (P → Q) → std.OnErr r P → std.OnErr r Q
err_map (Ok x) P Q f p = tt
err_map (Err e) P Q f p = f p
