-- What a run leaves.
use Rattle.std.proofs.Common.{◌≡◌, ◌≢◌, ◌≤◌, ◌<◌, ◌⊎◌, ℕ, Bool, true, false, List, [], ◌∷◌, ◌++◌, length, take, Option, Some, None, refl, sym, ap, subst, ◌∙◌, arith, inl, inr, append-nil, map}
use Rattle.std.proofs.lemmas.List.{take_all}
use Rattle.std.specs.Option.{is_some}
use Rattle.std.specs.Prelude.{not}
use Rattle.inf_ports.specs.Outside.{Rose}
use Rattle.dis_machine.specs.declared.event.Event.{Event}
use Rattle.dis_machine.specs.declared.event.Event.TheVariants as event
use Rattle.dis_machine.specs.declared.end.End.{End}
use Rattle.dis_machine.specs.declared.end.End.TheVariants as end
use Rattle.dis_machine.specs.declared.machine.Machine.{Machine}
use Rattle.std.proofs.KnownBytes.{Appends-nil}
use Rattle.dis_file.specs.declared.object.Object.{Object}
use Rattle.dis_steps.specs.Codes.{objects_of}
use Rattle.inf_text.specs.Options.{◌>>=◌}
use Rattle.dis_counts.specs.Opening.{Opened}
use Rattle.dis_machine.specs.declared.doing.Doing.TheVariants as doing
use Rattle.dis_machine.specs.Kept.{frames_on, told_after, trace_in, view_broken}
use Rattle.dis_machine.specs.Journal.{quanta, cut_events, cut_short, start_of, replay, begins}
use Rattle.dis_machine.specs.Frames.{requests}
use Rattle.dis_machine.specs.Ends.{end_of, ended_in, breaches}
use Rattle.dis_machine.specs.Standing.{codes, objects, told, state, waiting, HasBegun, SameProgram}
use Rattle.dis_machine.proofs.Entering as entering
use Rattle.console_server.specs.Console.{Serves}
use Rattle.machine_host.specs.Talk.{Talk, Heard, Calm, replies_of}
use Rattle.machine_host.specs.declared.run.Ran.{Ran}
use Rattle.machine_host.specs.Conversation.{Reached, Conversation}
use Rattle.machine_host.specs.Leading.{Leads}
use Rattle.machine_host.proofs.Served.{replies_append, serves_each}

front : (xs ys : List (List ℕ)) → take (length xs) (xs ++ ys) ≡ xs
front [] ys = refl
front (x ∷ xs) ys = ap (λ l. x ∷ l) (front xs ys)

-- The quantum that was cut short has no reply.
cut_replies : (js : List Event) (cut : Option ℕ) → replies_of (js ++ cut_events cut) ≡ replies_of js
cut_replies js None = replies_append js [] ∙ append-nil (replies_of js)
cut_replies js (Some n) = replies_append js (event.Quantum 1 n ∷ []) ∙ append-nil (replies_of js)

cut_within : (js : List Event) (cut : Option ℕ) (entered limit : ℕ) → entered ≡ quanta js → entered ≤ limit → (cut ≢ None → entered < limit) → quanta (js ++ cut_events cut) ≤ limit
cut_within js None entered limit counted within short = let e = ap quanta (append-nil js) in omega (arith, e, counted, within)
cut_within js (Some n) entered limit counted within short =
    let e = entering.quanta_more js (event.Quantum 1 n) in
    let less = short (λ e. absurd cc) in
    omega (arith, e, counted, less)

reached : (m : Machine) (events : List Event) → events ≡ m.journal.items ++ cut_events m.cut → Reached (codes m) m.limit events (state m)
reached m events all = record {
  journal = m.journal.items;
  cut = m.cut;
  all = all;
  reaches = m.kept.leads;
  within = subst (λ es. quanta es ≤ m.limit) (sym all) (cut_within m.journal.items m.cut m.entered m.limit m.kept.counted m.kept.within m.kept.short);
  started = m.kept.started;
}

same_replies : (m : Machine) (events : List Event) → events ≡ m.journal.items ++ cut_events m.cut → replies_of events ≡ replies_of m.journal.items
same_replies m events all = ap replies_of all ∙ cut_replies m.journal.items m.cut

whole_events : (m : Machine) (events : List Event) → m.lacks ≡ false → events ≡ m.journal.items ++ cut_events m.cut → events ≡ m.journal.items
whole_events m events able all = all ∙ ap (λ c. m.journal.items ++ cut_events c) (m.kept.whole able) ∙ append-nil m.journal.items

-- Where there is an end, it is one.
pub some_end : (o e : Option End) (none : Bool) → o ≡ e → is_some o ≡ not none → none ≡ false → (how : End) × (e ≡ Some how)
some_end (Some how) e none same is other = (how, sym same)
some_end None e none same is other = let bad : false ≡ true = is ∙ ap not other in absurd cc

-- The machine has ended.
pub done : (m : Machine) (events : List Event) (start now : Option (List ℕ)) (failed : Bool) (before after : ℕ) (how : End) → Talk m (waiting m 1) start now failed → Calm m → (failed ≡ true → Rose before after) →
    Some how ≡ end_of m.lacks m.limit (quanta m.journal.items) (state m) → events ≡ m.journal.items ++ cut_events m.cut → Conversation (codes m) m.limit events (state m) start now before after how
unfolding reached
done m events start now failed before after how talk calm cause ends all =
    let rs = replies_of m.journal.items in
    let same = same_replies m events all in
    let each = serves_each false talk.answered rs talk.bytes failed talk.served in
    let asked : requests 1 (told m) ≡ talk.answered = talk.asked ∙ ap (λ l. talk.answered ++ l) calm.handed ∙ append-nil talk.answered in
    let long = ap length asked in
    let n = ap length same in
    let served : take (length rs) (requests 1 (told m)) ≡ talk.answered = ap (take (length rs)) asked ∙ take_all (length rs) talk.answered (omega (arith, each)) in
    record {
      reached = reached m events all;
      uncut = λ other. m.kept.whole talk.able;
      ended = inr (ap (λ es. ended_in m.limit (quanta es) (state m)) (whole_events m events talk.able all) ∙ ap (λ b. end_of b m.limit (quanta m.journal.items) (state m)) (sym talk.able) ∙ sym ends);
      answers = rs;
      bytes = talk.bytes;
      failed = failed;
      cause = cause;
      served = subst (λ l. Serves false l rs talk.bytes failed) (sym served) talk.served;
      entered = same ∙ sym (take_all (length (replies_of events)) rs (omega (arith, n)));
      near = omega (arith, n);
      grown = talk.grown;
      whole = λ other. (sym same, omega (arith, each, long));
    }

-- Memory ran out.
pub stopped : (m : Machine) (events : List Event) (start now : Option (List ℕ)) (failed : Bool) (before after : ℕ) → Heard m start now failed → (failed ≡ true → Rose before after) →
    events ≡ m.journal.items ++ cut_events m.cut → Conversation (codes m) m.limit events (state m) start now before after end.NoMemory
stopped m events start now failed before after heard cause all =
    let rs = replies_of m.journal.items in
    let same = same_replies m events all in
    let each = serves_each false heard.answered heard.answers heard.bytes failed heard.served in
    let n = ap length same in
    let served : take (length heard.answers) (requests 1 (told m)) ≡ heard.answered =
    ap (λ k. take k (requests 1 (told m))) (sym each) ∙ ap (take (length heard.answered)) heard.asked ∙ front heard.answered heard.rest in
    record {
      reached = reached m events all;
      uncut = λ other. absurd (other refl);
      ended = inl refl;
      answers = heard.answers;
      bytes = heard.bytes;
      failed = failed;
      cause = cause;
      served = subst (λ l. Serves false l heard.answers heard.bytes failed) (sym served) heard.served;
      entered = same ∙ heard.entered ∙ ap (λ k. take (length k) heard.answers) (sym same);
      near = let near = heard.near in omega (arith, n, near);
      grown = heard.grown;
      whole = λ other. absurd (other refl);
    }

-- ---- the beginning

pub begins_calm : (m : Machine) → HasBegun (objects m) m.limit m → Calm m
begins_calm m b = record { handed = ap (frames_on 1) b.outbox; free = λ asks. (let bad : doing.Ready ≡ doing.Asking = sym b.ready ∙ asks in absurd cc) }

-- Nothing was told: the state after no event has told nothing.
pub begins_talk : (m : Machine) (start : Option (List ℕ)) (failed : Bool) → HasBegun (objects m) m.limit m → failed ≡ false → Talk m (waiting m 1) start start failed
begins_talk m start failed b sound =
    let none : m.cut ≡ None = m.kept.whole b.able in
    let told_none : told m ≡ [] = ap (told_after (codes m) m.journal.items) none ∙ ap (λ js. told_after (codes m) js None) b.journal ∙ nothing_told (codes m) in
    let handed : waiting m 1 ≡ [] = ap (frames_on 1) b.outbox in
    record {
      able = b.able;
      answered = [];
      asked = ap (requests 1) told_none ∙ sym handed;
      bytes = [];
      served = let none_yet = ap replies_of b.journal in subst (λ rs. Serves false [] rs [] failed) (sym none_yet) (refl, sound);
      grown = Appends-nil start;
    }
  where
    nothing_told : (objects : List Object) → told_after objects [] None ≡ []
    nothing_told objects = go (start_of objects)
      where
        go : (o : Option Opened) → trace_in ((o >>= λ o. replay objects (begins o) []) >>= cut_short objects None) ≡ []
        go None = refl
        go (Some o) = refl

-- ---- what is left

pub risen : (before now : Bool) (P : Type 0) → before ≡ false → (now ≡ true → (before ≡ true) ⊎ P) → now ≡ true → P
risen before now P sound cause failed = elim (cause failed) [
  | inl was ↦ (let bad : true ≡ false = sym was ∙ sound in absurd cc)
  | inr p ↦ p
]

pub leads : (m n : Machine) (r : Ran) (old new : Option (List ℕ)) (before after : ℕ) → SameProgram m n → Conversation (codes n) n.limit r.journal.events (state n) old new before after r.end →
    map view_broken r.broken.items ≡ breaches (told n) → Leads (codes m) m.limit r old new before after
leads m n r old new before after same talk broken = record {
  state = state n;
  conversation = subst (λ l. Conversation (codes m) l r.journal.events (state n) old new before after r.end) same.1
      (subst (λ cs. Conversation (objects_of cs.items) n.limit r.journal.events (state n) old new before after r.end) same.0 talk);
  broken = broken;
}
