-- Each sent value is received at most once, by one chosen branch. What a process offers is a table of branches, from when it begins to
-- wait, or looks round, until it goes on by one of them or by none. A run has a history of offers and meetings, and in it each
-- meeting takes a branch that sends and a branch that receives from two standing offers and ends both.
use Rattle.std.specs.Prelude.{ℕ, ◌≡◌, true, false, List, [], ◌∷◌, ◌++◌, Option, Some, None, slice_get, nat_eq, if◌then◌else◌}
use Rattle.process_model.specs.Process.{Branch, Doing, Waiting, Rules, Entry, Requested, Replied, Passed, Over, Released, Lost}
use Rattle.process_model.specs.Naming.{Naming}
use Rattle.process_model.specs.Source.{Config, Steps, goes, waits, meets, polls, passes, spawns, asks, ends, Run, still, next, Turn, Matched, begun, turn, down, reply}
use Rattle.process_model.specs.Machine.{State, Event, replay}
use Rattle.process_model.specs.Renaming.{Renaming}
use Rattle.process_model.specs.Follows.{Sides}
use Rattle.process_model.specs.Law.{begins, begins_code}

-- A value that passed: over which channel, from whom by which branch, and to whom by which.
pub record Meeting (D : Type 0) : Type 0 where
  pub channel : ℕ
  pub value : D
  pub sender : ℕ
  pub its_branch : ℕ
  pub receiver : ℕ
  pub branch : ℕ

-- What becomes of offers: process i offers these branches; two of them meet; or process i goes on by none of its branches.
pub data Act (D : Type 0) : Type 0 where
  Offers : ℕ → List (Branch D) → Act D
  Meets : Meeting D → Act D
  Withdraws : ℕ → Act D

-- Who offers what.
abbrev pub Standing : Type 0 → Type 0
Standing D = ℕ → Option (List (Branch D))

abbrev pub nobody : {D : Type 0} → Standing D
nobody i = None

-- Process i offers this, or no more.
abbrev pub with_offer : {D : Type 0} → Standing D → ℕ → Option (List (Branch D)) → Standing D
with_offer offers i o j = if nat_eq i j then o else offers j

-- What is offered after an act: a meeting ends both offers.
abbrev pub after_act : {D : Type 0} → Standing D → Act D → Standing D
after_act offers (Offers i branches) = with_offer offers i (Some branches)
after_act offers (Meets m) = with_offer (with_offer offers m.sender None) m.receiver None
after_act offers (Withdraws i) = with_offer offers i None

abbrev pub after_acts : {D : Type 0} → Standing D → List (Act D) → Standing D
after_acts offers [] = offers
after_acts offers (a ∷ rest) = after_acts (after_act offers a) rest

-- This process offers to send this value over this channel, by its branch of this number.
pub record OffersToSend {D : Type 0} (offers : Standing D) (channel : ℕ) (value : D) (i k : ℕ) : Type 0 where
  pub table : List (Branch D)
  pub standing : offers i ≡ Some table
  pub branch : slice_get table k ≡ Some (record { channel = channel; sends = true; value = value })

-- This process offers to receive over this channel, by its branch of this number.
pub record OffersToReceive {D : Type 0} (offers : Standing D) (channel j l : ℕ) : Type 0 where
  pub table : List (Branch D)
  pub unread : D
  pub standing : offers j ≡ Some table
  pub branch : slice_get table l ≡ Some (record { channel = channel; sends = false; value = unread })

-- An act that may come: who offers had no offer standing; who meet have, the one to send this value and the other to receive over the
-- same channel, and are two; who withdraws has.
abbrev pub MayCome : {D : Type 0} → Standing D → Act D → Type 0
MayCome offers (Offers i branches) = offers i ≡ None
MayCome offers (Meets m) =
    OffersToSend offers m.channel m.value m.sender m.its_branch ×
    OffersToReceive offers m.channel m.receiver m.branch × (m.sender ≡ m.receiver → ⊥)
MayCome {D = D} offers (Withdraws i) = (table : List (Branch D)) × (offers i ≡ Some table)

-- A history in which each act may come. So no offer is in two meetings: the first ends it.
abbrev pub EachOnce : {D : Type 0} → Standing D → List (Act D) → Type 0
EachOnce offers [] = Unit {0}
EachOnce offers (a ∷ rest) = MayCome offers a × EachOnce (after_act offers a) rest

-- The meetings of a history.
abbrev pub meetings : {D : Type 0} → List (Act D) → List (Meeting D)
meetings [] = []
meetings (Offers i branches ∷ rest) = meetings rest
meetings (Meets m ∷ rest) = m ∷ meetings rest
meetings (Withdraws i ∷ rest) = meetings rest

-- The values that a trace says have passed.
abbrev pub passed : {D M A H : Type 0} → List (Entry D M A H) → List (Meeting D)
passed [] = []
passed (Passed c v i k j l ∷ es) = record { channel = c; value = v; sender = i; its_branch = k; receiver = j; branch = l } ∷ passed es
passed (Requested i m ∷ es) = passed es
passed (Replied i a ∷ es) = passed es
passed (Over i how ∷ es) = passed es
passed (Released i ns ∷ es) = passed es
passed (Lost l ∷ es) = passed es

-- Branch k of process i meets branch l of process j.
abbrev pub meeting_of : {D : Type 0} → ℕ → ℕ → Branch D → ℕ → ℕ → Branch D → Meeting D
meeting_of i k a j l b =
    if a.sends then record { channel = a.channel; value = a.value; sender = i; its_branch = k; receiver = j; branch = l }
    else record { channel = a.channel; value = b.value; sender = j; its_branch = l; receiver = i; branch = k }

module _ {W P D M A H : Type 0} {rules : Rules W P D M A H} {naming : Naming W P D} where
  -- What a step does to offers. Who waits offers its table; who looks round offers it for this one step.
  abbrev pub acts_of_step : {c e : Config W P D M A H} {i : ℕ} → Steps rules naming c i e → List (Act D)
  acts_of_step (waits i p w branches p' at does) = Offers i branches ∷ []
  acts_of_step (meets i p branches k a j l b q at branch fit) = Meets (meeting_of i k a j l b) ∷ []
  acts_of_step (polls i p w branches p' p'' k a j l b q at does branch fit) = Offers i branches ∷ Meets (meeting_of i k a j l b) ∷ []
  acts_of_step (passes i p w branches p' p'' at does none) = Offers i branches ∷ Withdraws i ∷ []
  acts_of_step (goes i p w p' at does) = []
  acts_of_step (spawns i p w child p' at does) = []
  acts_of_step (asks i p w m p' at does) = []
  acts_of_step (ends i p w how at does) = []

  abbrev pub acts_of_run : {i : ℕ} {c e : Config W P D M A H} {n : ℕ} → Run rules naming i c n e → List (Act D)
  acts_of_run still = []
  acts_of_run (next run step) = acts_of_run run ++ acts_of_step step

  -- The history of a run.
  abbrev pub acts_of : {c e : Config W P D M A H} {turns : List Turn} → Matched rules naming c turns e → List (Act D)
  acts_of begun = []
  acts_of (turn i n before run) = acts_of before ++ acts_of_run run
  acts_of (down l w before lost) = acts_of before
  acts_of (reply i a before heard) = acts_of before

-- What a process that waits offers.
abbrev pub offer : {P D : Type 0} → Option (Doing P D) → Option (List (Branch D))
offer (Some (Waiting branches p)) = Some branches
offer _ = None

-- The history of a run from its opening has each act when it may come, its meetings are all that the trace tells of, and what is
-- still offered at the end is what the processes that wait then offer.
pub record TakenOnce {W P D M A H : Type 0} {rules : Rules W P D M A H} {naming : Naming W P D} (w : W) (p : P)
    (e : Config W P D M A H) (turns : List Turn) (run : Matched rules naming (begins w p) turns e) : Type 0 where
  pub once : EachOnce nobody (acts_of run)
  pub told : meetings (acts_of run) ≡ passed e.trace
  pub offered : (i : ℕ) → after_acts nobody (acts_of run) i ≡ offer (slice_get e.processes i)

-- So it is in every run of every source.
abbrev pub RunsTakeOnce : (W P D M A H : Type 0) → Type 0
RunsTakeOnce W P D M A H =
    (rules : Rules W P D M A H) (naming : Naming W P D) (w : W) (p : P) (e : Config W P D M A H) (turns : List Turn)
    (run : Matched rules naming (begins w p) turns e) → TakenOnce w p e turns run

module _ {K D U : Type 0} (map : Renaming K D U) where
  -- The same meeting, by the names of both sides.
  pub record SameMeeting (k : K) (m : Meeting D) (n : Meeting U) : Type 0 where
    pub channel : map.name k m.channel n.channel
    pub value : map.value k m.value n.value
    pub sender : m.sender ≡ n.sender
    pub its_branch : m.its_branch ≡ n.its_branch
    pub receiver : m.receiver ≡ n.receiver
    pub branch : m.branch ≡ n.branch

  -- The same meetings in the same order.
  abbrev pub SameMeetings : K → List (Meeting D) → List (Meeting U) → Type 0
  SameMeetings k [] [] = Unit {0}
  SameMeetings k (m ∷ ms) (n ∷ ns) = SameMeeting k m n × SameMeetings k ms ns
  SameMeetings k _ _ = ⊥

module _ {K W X P Q D U M A H : Type 0} (s : Sides K W X P Q D U M A H) where
  -- Of a machine's state: there is a history of the source's offers in which each act may come, whose meetings are those that the
  -- machine's trace tells of.
  pub record ReceivedOnce (k : K) (t : State X Q U M A H) : Type 0 where
    pub now : K
    pub grown : s.map.grows k now
    pub acts : List (Act D)
    pub once : EachOnce nobody acts
    pub told : SameMeetings s.map now (meetings acts) (passed t.trace)

  -- So it is after every journal from such an opening.
  abbrev pub JournalsTakeOnce : K → X → Q → Type 0
  JournalsTakeOnce k x q =
      (longest : ℕ) (journal : List (Event A)) (t : State X Q U M A H) →
      replay s.code s.code_naming longest (begins_code x q) journal ≡ Some t → ReceivedOnce k t
