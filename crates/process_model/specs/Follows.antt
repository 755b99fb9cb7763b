-- What one process of a machine owes to one of a source: whatever it does next, the other does too, after some steps of its
-- own. Only that process is spoken of, and only what stands before anything goes from either heap: what the others name, what goes
-- and what is told of it follows once for all from what holds of the two heaps.
use Rattle.std.specs.Prelude.{ℕ, ◌+◌, ◌≡◌, ◌⊎◌, ◌<◌, true, List, Option, Some, None, slice_get}
use Rattle.process_model.specs.Process.{Branch, Effect, Went, Parks, Polls, Spawns, Asks, Ends, Doing, Ready, Waiting, Asking, Gone, Rules, Woke, fits, both_wake}
use Rattle.process_model.specs.Naming.{Naming, Still, names, beside}
use Rattle.process_model.specs.Alone.{Burst, Comes}
use Rattle.process_model.specs.Renaming.{Renaming, Link, SameTable, SameReleased}

-- Some of the processes, by their numbers: all of them, one, two or none.
pub data Who : Type 0 where
  Everyone : Who
  Only : ℕ → Who
  Either : ℕ → ℕ → Who
  Nobody : Who

-- This process is one of them.
abbrev pub Among : Who → ℕ → Type 0
Among Everyone j = Unit {0}
Among (Only i) j = j ≡ i
Among (Either i l) j = (j ≡ i) ⊎ (j ≡ l)
Among Nobody j = ⊥

-- The two sides, each with the names of its heap, and how they are joined: the map between their names; three relations of
-- processes, which may read the machine's world for what belongs to the process alone, under its number: of two that are ready, of
-- two that wait for a reply, and of two that wait with their tables; one of worlds, which reads no process; what is held: of so
-- many names on the one side and on the other, that they refer to the same, and to nothing that belongs to other processes than
-- these; what a step of these processes changes; and what it leaves to each other.
pub record Sides (K W X P Q D U M A H : Type 0) : Type 1 where
  pub map : Renaming K D U
  pub program : Rules W P D M A H
  pub naming : Naming W P D
  pub code : Rules X Q U M A H
  pub code_naming : Naming X Q U
  pub ready : K → ℕ → X → P → Q → Type 0
  pub asking : K → ℕ → X → P → Q → Type 0
  pub waiting : K → ℕ → X → List (Branch D) → List (Branch U) → P → Q → Type 0
  pub worlds : K → W → X → Type 0
  pub holds : K → Who → X → (ℕ → ℕ) → (ℕ → ℕ) → Type 0
  pub changes : Who → K → K → X → X → Type 0
  pub leaves : ℕ → K → K → X → X → Type 0

-- So much is named by two, together.
abbrev pub together : (ℕ → ℕ) → (ℕ → ℕ) → ℕ → ℕ
together f g n = f n + g n

module _ {K W X P Q D U M A H : Type 0} (s : Sides K W X P Q D U M A H) where
  -- Two processes, or two places where none is, stand alike.
  abbrev pub StandsAlike : K → ℕ → X → Option (Doing P D) → Option (Doing Q U) → Type 0
  StandsAlike k i x None None = Unit {0}
  StandsAlike k i x (Some (Ready p)) (Some (Ready q)) = s.ready k i x p q
  StandsAlike k i x (Some (Waiting bs p)) (Some (Waiting cs q)) = s.waiting k i x bs cs p q
  StandsAlike k i x (Some (Asking p)) (Some (Asking q)) = s.asking k i x p q
  StandsAlike k i x (Some Gone) (Some Gone) = Unit {0}
  StandsAlike k i x _ _ = ⊥

  -- ---- the two heaps, once for a pair of languages

  -- Both worlds without what nobody names: they are alike, what went from the one went from the other, each process is left what
  -- is its own, and what was held is held.
  pub record Cuts (k : K) (w : W) (x : X) (named referred : ℕ → ℕ) : Type 0 where
    pub now : K
    pub grown : s.map.grows k now
    pub worlds : s.worlds now (s.naming.trim named w) (s.code_naming.trim referred x)
    pub released : SameReleased s.map now (s.naming.gone named w) (s.code_naming.gone referred x)
    pub left : (j : ℕ) → s.leaves j k now x (s.code_naming.trim referred x)
    pub held : (these : Who) (some few : ℕ → ℕ) → ((m : ℕ) → 0 < few m → 0 < referred m) →
        s.holds k these x some few → s.holds now these (s.code_naming.trim referred x) some few

  -- What holds of two heaps: the map is one; what processes hold adds up; a step of some processes leaves the others what they
  -- hold; both may be cut; and what was cut has nothing more to lose.
  pub record Heaps : Type 0 where
    pub link : Link s.map
    pub grown : (these : Who) (k now : K) (x x' : X) → s.changes these k now x x' → s.map.grows k now
    pub left : (these : Who) (k now : K) (x x' : X) (j : ℕ) → s.changes these k now x x' → (Among these j → ⊥) → s.leaves j k now x x'
    pub held_none : (k : K) (these : Who) (x : X) → s.holds k these x (λ n. 0) (λ n. 0)
    pub held_both : (k : K) (these : Who) (x : X) (f g f' g' : ℕ → ℕ) →
        s.holds k these x f g → s.holds k these x f' g' → s.holds k these x (together f f') (together g g')
    pub held_wide : (k : K) (these more : Who) (x : X) (f g : ℕ → ℕ) → ((j : ℕ) → Among these j → Among more j) →
        s.holds k these x f g → s.holds k more x f g
    pub held_on : (these others : Who) (k now : K) (x x' : X) (f g : ℕ → ℕ) → s.changes these k now x x' →
        ((j : ℕ) → Among others j → Among these j → ⊥) → s.holds k others x f g → s.holds now others x' f g
    pub cuts : (k : K) (w : W) (x : X) (named referred : ℕ → ℕ) →
        s.worlds k w x → s.holds k Everyone x named referred → Cuts k w x named referred
    pub still : (k : K) (w : W) (x : X) (named : ℕ → ℕ) → s.worlds k w x → Still s.naming named (s.naming.trim named w)

  -- ---- one process

  -- The machine went on: the source took so many steps, all quiet but the last. If it took none, the machine's place rose from
  -- what it was.
  pub record Moves (place : Q → ℕ) (at : ℕ) (k : K) (i : ℕ) (w : W) (x : X) (p : P) (x' : X) (q : Q) : Type 0 where
    pub now : K
    pub changes : s.changes (Only i) k now x x'
    pub steps : ℕ
    pub world : W
    pub after : P
    pub burst : Burst s.program s.naming steps w p world after
    pub related : s.ready now i x' after q
    pub worlds : s.worlds now world x'
    pub pace : steps ≡ 0 → at < place q

  -- The machine waits: so does the source, with the same table, and nothing goes as it begins to.
  pub record Parking (k : K) (i : ℕ) (w : W) (x : X) (p : P) (x' : X) (cs : List (Branch U)) (q : Q) : Type 0 where
    pub now : K
    pub changes : s.changes (Only i) k now x x'
    pub world : W
    pub branches : List (Branch D)
    pub after : P
    pub comes : Comes s.program s.naming w p (Parks world branches after)
    pub quiet : (others : ℕ → ℕ) →
        Still s.naming (beside s.naming (Ready p) others) w → Still s.naming (beside s.naming (Waiting branches after) others) world
    pub related : s.waiting now i x' branches cs after q
    pub worlds : s.worlds now world x'

  -- The machine looks round: so does the source. Both may meet as if they waited, and both may go on by themselves, when the
  -- table goes unused.
  pub record Polling (k : K) (i : ℕ) (w : W) (x : X) (p : P) (x' : X) (cs : List (Branch U)) (q q' : Q) : Type 0 where
    pub now : K
    pub changes : s.changes (Only i) k now x x'
    pub world : W
    pub branches : List (Branch D)
    pub after : P
    pub by_itself : P
    pub comes : Comes s.program s.naming w p (Polls world branches after by_itself)
    pub related : s.waiting now i x' branches cs after q
    pub alone : s.ready now i x' by_itself q'
    pub worlds : s.worlds now world x'

  -- The machine starts a child, whatever its number: so does the source.
  pub record Spawning (k : K) (i : ℕ) (w : W) (x : X) (p : P) (x' : X) (child q : Q) : Type 0 where
    pub now : K
    pub changes : s.changes (Only i) k now x x'
    pub world : W
    pub own : P
    pub after : P
    pub comes : Comes s.program s.naming w p (Spawns world own after)
    pub related_child : (j : ℕ) → s.ready now j x' own child
    pub related : s.ready now i x' after q
    pub worlds : s.worlds now world x'

  -- The machine asks: the source asks the same.
  pub record AskingFor (k : K) (i : ℕ) (w : W) (x : X) (p : P) (x' : X) (m : M) (q : Q) : Type 0 where
    pub now : K
    pub changes : s.changes (Only i) k now x x'
    pub world : W
    pub after : P
    pub comes : Comes s.program s.naming w p (Asks world m after)
    pub related : s.asking now i x' after q
    pub worlds : s.worlds now world x'

  -- The machine ends: the source ends the same way.
  pub record Ending (k : K) (i : ℕ) (w : W) (x : X) (p : P) (x' : X) (how : H) : Type 0 where
    pub now : K
    pub changes : s.changes (Only i) k now x x'
    pub world : W
    pub comes : Comes s.program s.naming w p (Ends world how)
    pub worlds : s.worlds now world x'

  -- The source does, after some steps, what the machine does; `at` is where the machine's process was.
  abbrev pub Matches : (Q → ℕ) → ℕ → K → ℕ → W → X → P → Effect X Q U M H → Type 0
  Matches place at k i w x p (Went x' q) = Moves place at k i w x p x' q
  Matches place at k i w x p (Parks x' cs q) = Parking k i w x p x' cs q
  Matches place at k i w x p (Polls x' cs q q') = Polling k i w x p x' cs q q'
  Matches place at k i w x p (Spawns x' child q) = Spawning k i w x p x' child q
  Matches place at k i w x p (Asks x' m q) = AskingFor k i w x p x' m q
  Matches place at k i w x p (Ends x' how) = Ending k i w x p x' how

  -- The machine's process went on at its reply: so did the source's.
  pub record HeardOn (k : K) (i : ℕ) (x : X) (e : Effect W P D M H) (x' : X) (q : Q) : Type 0 where
    pub now : K
    pub changes : s.changes (Only i) k now x x'
    pub world : W
    pub after : P
    pub does : e ≡ Went world after
    pub related : s.ready now i x' after q
    pub worlds : s.worlds now world x'

  -- It asked again: so did the source's, the same.
  pub record HeardAgain (k : K) (i : ℕ) (x : X) (e : Effect W P D M H) (x' : X) (m : M) (q : Q) : Type 0 where
    pub now : K
    pub changes : s.changes (Only i) k now x x'
    pub world : W
    pub after : P
    pub does : e ≡ Asks world m after
    pub related : s.asking now i x' after q
    pub worlds : s.worlds now world x'

  -- It ended: so did the source's, the same way.
  pub record HeardOver (k : K) (i : ℕ) (x : X) (e : Effect W P D M H) (x' : X) (how : H) : Type 0 where
    pub now : K
    pub changes : s.changes (Only i) k now x x'
    pub world : W
    pub does : e ≡ Ends world how
    pub worlds : s.worlds now world x'

  -- The source does at a reply what the machine does at it. At another effect the machine's reply is not allowed.
  abbrev pub MatchesReply : K → ℕ → X → Effect W P D M H → Effect X Q U M H → Type 0
  MatchesReply k i x e (Went x' q) = HeardOn k i x e x' q
  MatchesReply k i x e (Asks x' m q) = HeardAgain k i x e x' m q
  MatchesReply k i x e (Ends x' how) = HeardOver k i x e x' how
  MatchesReply k i x e _ = Unit {0}

  -- The machine lost a link: so does the source, and nothing goes.
  pub record Losing (k : K) (l : ℕ) (w : W) (x x' : X) : Type 0 where
    pub now : K
    pub changes : s.changes Nobody k now x x'
    pub world : W
    pub does : s.program.down l w ≡ Some world
    pub worlds : s.worlds now world x'
    pub still : (named : ℕ → ℕ) → Still s.naming named w → Still s.naming named world

  -- Two have gone on in both languages, process i and process j, and stand alike again.
  pub record GoneOn (k : K) (i j : ℕ) (x : X) (m : Woke W P) (m' : Woke X Q) : Type 0 where
    pub now : K
    pub changes : s.changes (Either i j) k now x m'.world
    pub one : s.ready now i m'.world m.one m'.one
    pub other : s.ready now j m'.world m.other m'.other
    pub worlds : s.worlds now m.world m'.world

  -- What is to be proved of two languages: what holds of their heaps; that two processes hold the same, and stay related where
  -- they are left what is their own; how far a process of the machine may be along without a step of the source; what one process
  -- owes at each of its steps and replies; and what two owe that meet.
  pub record Follows : Type 0 where
    pub heaps : Heaps
    pub table : (k : K) (i : ℕ) (x : X) (bs : List (Branch D)) (cs : List (Branch U)) (p : P) (q : Q) →
        s.waiting k i x bs cs p q → SameTable s.map k bs cs
    pub rooted : (k : K) (i : ℕ) (x : X) (d : Doing P D) (e : Doing Q U) → StandsAlike k i x (Some d) (Some e) →
        s.holds k (Only i) x (names s.naming d) (names s.code_naming e)
    pub keeps : (k now : K) (i : ℕ) (x x' : X) (d : Doing P D) (e : Doing Q U) → StandsAlike k i x (Some d) (Some e) →
        s.leaves i k now x x' → s.holds now (Only i) x' (names s.naming d) (names s.code_naming e) → StandsAlike now i x' (Some d) (Some e)
    pub place : Q → ℕ
    pub bound : ℕ
    pub some : 0 < bound
    pub within : (k : K) (i : ℕ) (x : X) (p : P) (q : Q) → s.ready k i x p q → place q < bound
    pub each : (k : K) (i : ℕ) (w : W) (x : X) (p : P) (q : Q) →
        s.ready k i x p q → s.worlds k w x → Matches place (place q) k i w x p (s.code.step x q)
    pub answers : (k : K) (i : ℕ) (a : A) (w : W) (x : X) (p : P) (q : Q) →
        s.asking k i x p q → s.worlds k w x → MatchesReply k i x (s.program.answer a w p) (s.code.answer a x q)
    pub downs : (k : K) (l : ℕ) (w : W) (x x' : X) → s.worlds k w x → s.code.down l x ≡ Some x' → Losing k l w x x'
    pub meets : (k : K) (i j : ℕ) (w : W) (x : X)
        (bs : List (Branch D)) (cs : List (Branch U)) (p : P) (q : Q) (n : ℕ) (a : Branch D) (a' : Branch U)
        (bs' : List (Branch D)) (cs' : List (Branch U)) (p' : P) (q' : Q) (l : ℕ) (b : Branch D) (b' : Branch U) →
        (j ≡ i → ⊥) → s.waiting k i x bs cs p q → slice_get bs n ≡ Some a → slice_get cs n ≡ Some a' →
        s.waiting k j x bs' cs' p' q' → slice_get bs' l ≡ Some b → slice_get cs' l ≡ Some b' → fits a b ≡ true → s.worlds k w x →
        GoneOn k i j x (both_wake s.program w n a p l b p') (both_wake s.code x n a' q l b' q')
