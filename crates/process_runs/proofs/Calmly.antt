-- The replay of a journal is a run of the source, in which nothing goes where a link is lost.
use Rattle.std.proofs.Common.{◌≡◌, ℕ, zero, suc, ◌<◌, ◌≤◌, Bool, true, false, List, [], ◌∷◌, ◌++◌, Option, Some, None, refl, sym, ap, ◌∙◌, subst, arith, append-nil, append_assoc}
use Rattle.std.specs.Prelude.{slice_get, nat_eq, nat_lt, if◌then◌else◌}
use Rattle.process_model.specs.Process.{Branch, Doing, Ready, Waiting, Asking, Gone, Lost}
use Rattle.process_model.specs.Source.{Config, Turn, Matched, begun, turn, down, reply, lost}
use Rattle.process_model.specs.Machine as machine
use Rattle.process_model.specs.Machine.{State, Event, Quantum, Reply, Down}
use Rattle.process_model.specs.Naming.{Still, total}
use Rattle.process_model.specs.Renaming.{nothing, told_too}
use Rattle.process_model.specs.Follows.{Nobody, Sides, StandsAlike, Follows}
use Rattle.process_model.specs.Law.{idle, Paced, repeated, instructions, makers, begins, begins_code, Beside}
use Rattle.process_model.proofs.Totals.{total_first}
use Rattle.process_model.proofs.Ranks.{rank, idle_all, idle_more, paced_more, makers_more, idle_moves}
use Rattle.process_model.proofs.Joined.{at_on, rank_within, Joined, Took}
use Rattle.process_model.proofs.Effects.{instruction, told_on}
use Rattle.process_model.proofs.Replies.{reply_follows}
use Rattle.process_runs.specs.Runs.{Calm}

module _ {K W X P Q D U M A H : Type 0} (sides : Sides K W X P Q D U M A H) (follows : Follows sides) where
  -- a run beside the instructions so far, which ends in a configuration that stands for s
  pub record Reaches (k : K) (start : Config W P D M A H) (ms : List ℕ) (s : State X Q U M A H) : Type 0 where
    pub now : K
    pub grown : sides.map.grows k now
    pub config : Config W P D M A H
    pub turns : List Turn
    pub run : Matched sides.program sides.naming start turns config
    pub calm : Calm sides.program sides.naming run
    pub joined : Joined sides follows now config s
    pub makes : makers turns ≡ ms
    pub paced : Paced follows.bound (λ j. 0) turns
    pub idles : (j : ℕ) → idle_all (λ j. 0) turns j ≤ rank follows.place (slice_get s.processes j)

  -- one more instruction
  reach_on : (k : K) (start : Config W P D M A H) (ms : List ℕ) (s t : State X Q U M A H) (i : ℕ) (r : Reaches k start ms s) → Took sides follows r.now r.config s i t → Reaches k start (ms ++ i ∷ []) t
  reach_on k start ms s t i r b =
      let z = idle_all (λ j. 0) r.turns in
      let one : Turn = record { pid = i; steps = b.steps } in
      let h : (j : ℕ) → idle z one j ≤ rank follows.place (slice_get t.processes j) = λ j.
      idle_moves z i b.steps j (rank follows.place (slice_get s.processes j)) (rank follows.place (slice_get t.processes j))
      (λ e same. subst (λ j. rank follows.place (slice_get s.processes j) < rank follows.place (slice_get t.processes j)) (sym same) (b.moved e)) (b.others j) (r.idles j) in
      record {
        now = b.now;
        grown = follows.heaps.link.on k r.now b.now r.grown b.grown;
        config = b.config;
        turns = r.turns ++ one ∷ [];
        run = turn i b.steps r.run b.run;
        calm = r.calm;
        joined = b.joined;
        makes = makers_more r.turns one ∙ ap (λ l. l ++ i ∷ []) r.makes;
        paced = paced_more follows.bound (λ j. 0) r.turns one r.paced (λ j. let a = h j in let w = rank_within sides follows b.now j t.world (slice_get b.config.processes j) (slice_get t.processes j) (b.joined.all.each j) in omega arith);
        idles = λ j. subst (λ (g : ℕ → ℕ). g j ≤ rank follows.place (slice_get t.processes j)) (sym (idle_more (λ j. 0) r.turns one)) (h j);
      }

  obey_follows : (k : K) (c : Config W P D M A H) (s t : State X Q U M A H) (i : ℕ) → Joined sides follows k c s → (o : Option (Doing Q U)) → slice_get s.processes i ≡ o → machine.obey sides.code sides.code_naming s i (machine.ready o) ≡ Some t → Took sides follows k c s i t
  obey_follows k c s t i j (Some (Ready q)) f e =
      let g : machine.cut sides.code_naming i (machine.does sides.code s i (sides.code.step s.world q)) ≡ t = cc in
      subst (λ t. Took sides follows k c s i t) g (instruction sides follows k c s i q j f)
  obey_follows k c s t i j (Some (Waiting cs q)) f e = absurd cc
  obey_follows k c s t i j (Some (Asking q)) f e = absurd cc
  obey_follows k c s t i j (Some Gone) f e = absurd cc
  obey_follows k c s t i j None f e = absurd cc

  same_reaches : (k : K) (start : Config W P D M A H) (ms : List ℕ) (s t : State X Q U M A H) → Reaches k start ms s → s ≡ t → Reaches k start (ms ++ []) t
  same_reaches k start ms s t r q = subst (λ l. Reaches k start l t) (sym (append-nil ms)) (subst (λ t. Reaches k start ms t) q r)

  turns_follow : (n i : ℕ) (k : K) (start : Config W P D M A H) (ms : List ℕ) (s t : State X Q U M A H) → Reaches k start ms s → machine.turns sides.code sides.code_naming i n s ≡ Some t → Reaches k start (ms ++ repeated i n) t
  turns_follow zero i k start ms s t r e = same_reaches k start ms s t r cc
  turns_follow (suc n) i k start ms s t r e = go (λ ms s r e. turns_follow n i k start ms s t r e) (machine.obey sides.code sides.code_naming s i (machine.ready (slice_get s.processes i))) refl e
    where
      go : ((ms : List ℕ) (s : State X Q U M A H) → Reaches k start ms s → machine.turns sides.code sides.code_naming i n s ≡ Some t → Reaches k start (ms ++ repeated i n) t) → (o : Option (State X Q U M A H)) → machine.obey sides.code sides.code_naming s i (machine.ready (slice_get s.processes i)) ≡ o → (elim o as (λ _. Option (State X Q U M A H)) [ None ↦ None | Some u ↦ machine.turns sides.code sides.code_naming i n u ]) ≡ Some t → Reaches k start (ms ++ i ∷ repeated i n) t
      go again None f e = absurd cc
      go again (Some u) f e =
          let b = obey_follows r.now r.config s u i r.joined (slice_get s.processes i) refl f in
          subst (λ l. Reaches k start l t) (append_assoc ms (i ∷ []) (repeated i n)) (again (ms ++ i ∷ []) u (reach_on k start ms s u i r b) e)

  abbrev made : Event A → List ℕ
  made (Quantum i n) = repeated i n
  made (Reply i a) = []
  made (Down l) = []

  whole_same : (longest i n : ℕ) (u t : State X Q U M A H) → machine.is_whole longest i n u ≡ Some t → u ≡ t
  whole_same longest i n u t e = go (machine.ready (slice_get u.processes i)) e
    where
      full : (b : Bool) → (if b then Some u else None) ≡ Some t → u ≡ t
      full true e = cc
      full false e = absurd cc

      go : (o : Option Q) → (elim o as (λ _. Option (State X Q U M A H)) [ None ↦ Some u | Some p ↦ if nat_eq n longest then Some u else None ]) ≡ Some t → u ≡ t
      go None e = cc
      go (Some q) e = full (nat_eq n longest) e

  event_follows : (longest : ℕ) (k : K) (start : Config W P D M A H) (ms : List ℕ) (s t : State X Q U M A H) (e : Event A) → Reaches k start ms s → machine.happens sides.code sides.code_naming longest s e ≡ Some t → Reaches k start (ms ++ made e) t
  event_follows longest k start ms s t (Quantum i zero) r e = absurd cc
  event_follows longest k start ms s t (Quantum i (suc n)) r e = fits_in (nat_lt longest (suc n)) e
    where
      go : (o : Option (State X Q U M A H)) → machine.turns sides.code sides.code_naming i (suc n) s ≡ o → (elim o as (λ _. Option (State X Q U M A H)) [ None ↦ None | Some u ↦ machine.is_whole longest i (suc n) u ]) ≡ Some t → Reaches k start (ms ++ repeated i (suc n)) t
      go None f e = absurd cc
      go (Some u) f e = subst (λ t. Reaches k start (ms ++ repeated i (suc n)) t) (whole_same longest i (suc n) u t e) (turns_follow (suc n) i k start ms s u r f)

      fits_in : (b : Bool) → (if b then None else (elim (machine.turns sides.code sides.code_naming i (suc n) s) as (λ _. Option (State X Q U M A H)) [ None ↦ None | Some u ↦ machine.is_whole longest i (suc n) u ])) ≡ Some t → Reaches k start (ms ++ repeated i (suc n)) t
      fits_in true e = absurd cc
      fits_in false e = go (machine.turns sides.code sides.code_naming i (suc n) s) refl e
  event_follows longest k start ms s t (Reply i a) r e =
      let h = reply_follows sides follows r.now r.config s t i a r.joined (slice_get s.processes i) refl e in
      subst (λ l. Reaches k start l t) (sym (append-nil ms)) (record {
        now = h.now;
        grown = follows.heaps.link.on k r.now h.now r.grown h.grown;
        config = h.config;
        turns = r.turns;
        run = reply i a r.run h.hears;
        calm = r.calm;
        joined = h.joined;
        makes = r.makes;
        paced = r.paced;
        idles = λ j. let x = r.idles j in let y = h.ranks j in omega arith;
      })
  event_follows longest k start ms s t (Down l) r e = go (sides.code.down l s.world) refl e
    where
      go : (o : Option X) → sides.code.down l s.world ≡ o → machine.cut_off sides.code sides.code_naming s l o ≡ Some t → Reaches k start (ms ++ []) t
      go None f e = absurd cc
      go (Some x) f e =
          let all = r.joined.all in
          let h = follows.downs r.now l r.config.world s.world x all.worlds f in
          let g = follows.heaps.grown Nobody r.now h.now s.world x h.changes in
          let same : record { processes = s.processes; world = x; waiters = s.waiters; trace = s.trace ++ Lost l ∷ [] } ≡ t = cc in
          subst (λ t. Reaches k start (ms ++ []) t) same (subst (λ ms. Reaches k start ms (record { processes = s.processes; world = x; waiters = s.waiters; trace = s.trace ++ Lost l ∷ [] })) (sym (append-nil ms)) (record {
            now = h.now;
            grown = follows.heaps.link.on k r.now h.now r.grown g;
            config = lost l r.config h.world;
            turns = r.turns;
            run = down l h.world r.run h.does;
            calm = (r.calm, h.still);
            joined = record {
              all = record {
                each = λ j. at_on sides follows Nobody r.now h.now s.world x j (slice_get r.config.processes j) (slice_get s.processes j) h.changes (λ n. n) (all.each j);
                stood = all.stood;
                listed = all.listed;
                worlds = h.worlds;
                trace = told_on sides follows r.now h.now r.config s (Lost l ∷ []) (Lost l ∷ []) g all (told_too refl nothing);
              };
              still = h.still (total sides.naming r.config.processes) r.joined.still;
            };
            makes = r.makes;
            paced = r.paced;
            idles = r.idles;
          }))

  pub journal_follows : (longest : ℕ) (journal : List (Event A)) (k : K) (start : Config W P D M A H) (ms : List ℕ) (s t : State X Q U M A H) → Reaches k start ms s → machine.replay sides.code sides.code_naming longest s journal ≡ Some t → Reaches k start (ms ++ instructions journal) t
  journal_follows longest [] k start ms s t r e = same_reaches k start ms s t r cc
  journal_follows longest (x ∷ journal) k start ms s t r e = go (λ ms s r e. journal_follows longest journal k start ms s t r e) (machine.happens sides.code sides.code_naming longest s x) refl e
    where
      parts : (x : Event A) → ms ++ (made x ++ instructions journal) ≡ ms ++ instructions (x ∷ journal)
      parts (Quantum i n) = refl
      parts (Reply i a) = refl
      parts (Down l) = refl

      go : ((ms : List ℕ) (s : State X Q U M A H) → Reaches k start ms s → machine.replay sides.code sides.code_naming longest s journal ≡ Some t → Reaches k start (ms ++ instructions journal) t) → (o : Option (State X Q U M A H)) → machine.happens sides.code sides.code_naming longest s x ≡ o → (elim o as (λ _. Option (State X Q U M A H)) [ None ↦ None | Some u ↦ machine.replay sides.code sides.code_naming longest u journal ]) ≡ Some t → Reaches k start (ms ++ instructions (x ∷ journal)) t
      go again None f e = absurd cc
      go again (Some u) f e =
          subst (λ l. Reaches k start l t) (append_assoc ms (made x) (instructions journal) ∙ parts x)
          (again (ms ++ made x) u (event_follows longest k start ms s u x r f) e)

  first_joined : (k : K) (w : W) (x : X) (p : P) (q : Q) → sides.ready k 0 x p q → sides.worlds k w x → Still sides.naming (sides.naming.names p) w → Joined sides follows k (begins w p) (begins_code x q)
  first_joined k w x p q r e st = record {
    all = record {
      each = at;
      stood = λ j bs s. absurd s;
      listed = none;
      worlds = e;
      trace = nothing;
    };
    still = subst (λ (g : ℕ → ℕ). Still sides.naming g w) (sym (total_first sides.naming p)) st;
  }
    where
      at : (j : ℕ) → StandsAlike sides k j x (slice_get (Ready p ∷ []) j) (slice_get (Ready q ∷ []) j)
      at zero = r
      at (suc j) = tt

      none : (j : ℕ) (bs : List (Branch U)) (y : Q) → slice_get (Ready q ∷ []) j ≡ Some (Waiting bs y) → ⊥
      none zero bs y e = absurd cc
      none (suc j) bs y e = absurd cc

  -- Such a run beside a journal.
  pub record CalmBeside (k : K) (w : W) (p : P) (journal : List (Event A)) (t : State X Q U M A H) : Type 0 where
    pub beside : Beside sides k w p follows.bound journal t
    pub calm : Calm sides.program sides.naming beside.run

  pub every_calmly : (k : K) (w : W) (x : X) (p : P) (q : Q) → sides.ready k 0 x p q → sides.worlds k w x → Still sides.naming (sides.naming.names p) w → (longest : ℕ) (journal : List (Event A)) (t : State X Q U M A H) →
      machine.replay sides.code sides.code_naming longest (begins_code x q) journal ≡ Some t → CalmBeside k w p journal t
  every_calmly k w x p q r e st longest journal t f =
      let first : Reaches k (begins w p) [] (begins_code x q) = record { now = k; grown = follows.heaps.link.same k; config = begins w p; turns = []; run = begun; calm = tt; joined = first_joined k w x p q r e st; makes = refl; paced = tt; idles = λ j. omega arith } in
      let h = journal_follows longest journal k (begins w p) [] (begins_code x q) t first f in
      record {
        beside = record { now = h.now; grown = h.grown; config = h.config; turns = h.turns; run = h.run; makers = h.makes; paced = h.paced; trace = h.joined.all.trace; processes = h.joined.all.each; worlds = h.joined.all.worlds; still = h.joined.still };
        calm = h.calm;
      }
