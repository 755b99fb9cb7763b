-- Two processes on their way through a row, and records that the process made there, which stand for nothing yet.
use Rattle.std.proofs.Common.{◌≡◌, ◌≢◌, ℕ, zero, suc, pos, ◌+◌, ◌/◌, ◌<◌, ◌≤◌, List, [], ◌∷◌, Option, Some, None}
use Rattle.std.proofs.Common.{refl, sym, ap, ◌∙◌, subst, arith, inl, inr}
use Rattle.std.specs.Prelude.{slice_set}
use Rattle.heap_model.specs.Heap.{Heap, at, there}
use Rattle.heap_model.specs.Facts.{Fact, IsFree, Free, Covers}
use Rattle.heap_model.specs.Worlds.{Sets}
use Rattle.heap_model.proofs.Settle.{covers_grows}
use Rattle.limbo_types.specs.Types.{Ty}
use Rattle.limbo_layout.specs.Adts.{Has}
use Rattle.limbo_typed.specs.Typed as typed
use Rattle.core_code.specs.Machine as code
use Rattle.core_typing.specs.Held as held
use Rattle.dis_meaning.specs.Words.{Word, Refer, Found, word_at}
use Rattle.dis_meaning.specs.Process.{Process}
use Rattle.dis_memory.specs.Blocks.{Block, Record, World}
use Rattle.dis_memory.specs.Naming as machine
use Rattle.value_words.specs.Forms.{OwnedBy}
use Rattle.value_words.specs.Facts.{Facts, Grows}
use Rattle.value_words.proofs.Bytes.{word_found}
use Rattle.value_heaps.proofs.Words.{named_by}
use Rattle.value_frames.specs.Frames.{answer_place}
use Rattle.value_frames.specs.Standing.{WordsAre}
use Rattle.value_frames.specs.Slots.{IsKept}
use Rattle.value_frames.proofs.Later.{frames_later}
use Rattle.value_follows.specs.Stands.{types_of, place_of, Awaited, FrameIs, Stands}
use Rattle.value_follows.specs.Kept.{SameFrame}
use Rattle.value_follows.specs.Sides.{sides, HoldTheSame}
use Rattle.value_follows.specs.Rows.{Base}
use Rattle.value_follows.proofs.Standing.{all_wait, moved_on}
use Rattle.value_follows.proofs.Waiting.{all_wait_later}

-- ---- a heap in which a block that is there is another one

pub set_there : {A : Type 0} (h : Heap A) (n : ℕ) (a b : A) → at h n ≡ Some b → Sets h (slice_set h n (Some a)) n (Some a)
set_there {A = A} h n a b e = record { here = here h n e; apart = λ q ne. apart h n q ne }
  where
    here : (h : Heap A) (n : ℕ) → at h n ≡ Some b → at (slice_set h n (Some a)) n ≡ Some a
    here [] n e = absurd cc
    here (o ∷ h) zero e = refl
    here (o ∷ h) (suc n) e = here h n e

    apart : (h : Heap A) (n q : ℕ) → q ≢ n → at (slice_set h n (Some a)) q ≡ at h q
    apart [] n q ne = refl
    apart (o ∷ h) zero zero ne = absurd (ne refl)
    apart (o ∷ h) zero (suc q) ne = refl
    apart (o ∷ h) (suc n) zero ne = refl
    apart (o ∷ h) (suc n) (suc q) ne = apart h n q (λ e. ne (ap suc e))

-- ---- on the way

module _ (m : typed.Module) (i : ℕ) (p : code.Process) where
  -- The process is so many instructions behind the row's begin, with nothing on its way but what is in busy slots and in the spare word.
  pub record OnWay (known : held.Slots) (busy : List ℕ) (far : ℕ) (k : Facts) (x : World) (q : Process) : Type 0 where
    pub stands : Stands m k i x busy Awaited p q
    pub known_so : stands.is.known ≡ known
    pub none_made : q.made ≡ []
    pub pc : q.frame.pc ≡ place_of m stands.is.number stands.is.function p.frame.pc + far

  -- A record that the process made, to which a word of its frame refers, and which no slot has as its own. What it refers to is named by
  -- the other process, or is a text.
  pub record Mine (own : ℕ → List ℕ) (place : ℕ) (so_far : Facts → List Word → Type 0) (k : Facts) (x : World) (q : Process) : Type 0 where
    pub block : ℕ
    pub inner : List Word
    pub word : word_at q.frame.words (pos place) ≡ Found (Refer (Some block))
    pub there : at x.heap block ≡ Some (Record inner)
    pub unknown : k.fact block ≡ None
    pub made : k.maker block ≡ Some i
    pub formed : k.form block ≡ Some (OwnedBy q.frame.serial)
    pub apart : (s : ℕ) → Has (own s) block → ⊥
    pub covered : (c : ℕ) → Has inner (Refer (Some c)) → Covers k (λ n. 0 < code.process_names p n) c
    pub so : so_far k inner

  pub free_so : (k : Facts) (c : ℕ) → k.fact c ≡ None → Free k c
  free_so k c e = subst (λ (o : Option (Fact Block)). IsFree o) (sym e) tt

  -- ---- while others step

  module _ (b : Base m) (k now : Facts) (x y : World) (q : Process) (left : (sides m).leaves i k now x y) (hold : HoldTheSame m now i y p q) where
    pub way_later : (known : held.Slots) (busy : List ℕ) (far : ℕ) (s : OnWay known busy far k x q)
        → (t : OnWay known busy far now y q) × SameFrame m k now i x y s.stands.is t.stands.is
    way_later known busy far s =
        let still = b.stands_later k now i x y busy Awaited p q s.stands left hold in (
          record {
            stands = still.0;
            known_so = still.1.known ∙ s.known_so;
            none_made = s.none_made;
            pc = s.pc ∙ sym (ap (λ n. place_of m n still.0.is.function p.frame.pc + far) still.1.number
                ∙ ap (λ f. place_of m s.stands.is.number f p.frame.pc + far) still.1.function);
          },
          still.1,
        )

    -- what the process made, and refers to, stays as it is
    made_stays : (c : ℕ) → 0 < machine.names q c → k.fact c ≡ None → k.maker c ≡ Some i
        → (now.fact c ≡ None) × (at y.heap c ≡ at x.heap c)
    made_stays c named none made = elim (left.0.free c (free_so k c none) made) [
      | inl w ↦ (w.0 ∙ none, w.1)
      | inr w ↦ absurd (let z = sym (ap there w.1) ∙ hold.same.live c (hold.same.roots c named) in cc)
    ]

    pub mine_later : (own own' : ℕ → List ℕ) (place place' : ℕ) (so_far : Facts → List Word → Type 0)
        → ((ws : List Word) → so_far k ws → so_far now ws) → own' ≡ own → place' ≡ place
        → Mine own place so_far k x q → Mine own' place' so_far now y q
    mine_later own own' place place' so_far grows same there_so c =
        let named = named_by q.frame.words (place / 4) c.block (word_found q.frame.words place (Refer (Some c.block)) c.word).1 in
        let kept = made_stays c.block (omega (arith, named)) c.unknown c.made in
        record {
          block = c.block;
          inner = c.inner;
          word = ap (λ n. word_at q.frame.words (pos n)) there_so ∙ c.word;
          there = kept.1 ∙ c.there;
          unknown = kept.0;
          made = left.0.grows.makers c.block i c.made;
          formed = left.0.grows.forms c.block _ c.formed;
          apart = λ s h. c.apart s (subst (λ (o : ℕ → List ℕ). Has (o s) c.block) same h);
          covered = λ d h. covers_grows k now _ d left.0.grows (c.covered d h);
          so = grows c.inner c.so;
        }

  -- ---- a step of its own

  -- What one instruction changes of the heap and of what is known: at most a block that stands for nothing, of which the process knows, and
  -- which no slot has.
  pub record Changed (own : ℕ → List ℕ) (serial : ℕ) (c : ℕ) (k k' : Facts) (x x' : World) : Type 0 where
    pub grows : Grows k k'
    pub more : x.outside.frames ≤ x'.outside.frames
    pub keeps : (b : ℕ) → Free k b → k.maker b ≡ Some i → b ≢ c → IsKept k' x.heap x'.heap b
    pub facts : (b : ℕ) → b ≢ c → k'.fact b ≡ k.fact b
    pub apart : (s : ℕ) → Has (own s) c → ⊥
    pub other : k.maker c ≡ Some i → k.form c ≡ Some (OwnedBy serial)

  module _ (known : held.Slots) (busy : List ℕ) (far : ℕ) (k k' : Facts) (x x' : World) (q : Process) (s : OnWay known busy far k x q) (c : ℕ)
      (d : Changed s.stands.is.words.own q.frame.serial c k k' x x') where
    abbrev is : FrameIs m k i x busy p.frame q.frame
    is = s.stands.is

    abbrev pub types : List Ty
    types = types_of m is.function

    owned_kept : (u b : ℕ) → Has (is.words.own u) b → IsKept k' x.heap x'.heap b
    owned_kept u b h =
        let later = frames_later m.adts k x.heap q.frame.serial busy types is.known p.frame.variables p.frame.slots q.frame.words is.words in
        d.keeps b (later.owned u b h).0 (is.mine u b h) (λ e. d.apart u (subst (λ n. Has (is.words.own u) n) e h))

    -- the frame's words are as they were, and stand for the same
    pub words_after : (after : WordsAre m.adts k' x'.heap q.frame.serial busy types is.known p.frame.variables p.frame.slots q.frame.words)
        × (after.own ≡ is.words.own)
    words_after =
        (frames_later m.adts k x.heap q.frame.serial busy types is.known p.frame.variables p.frame.slots q.frame.words is.words).later
        k' x'.heap d.grows owned_kept

    pub keeps_others : (b : ℕ) → Free k b → k.maker b ≡ Some i → (k.form b ≡ Some (OwnedBy q.frame.serial) → ⊥) → IsKept k' x.heap x'.heap b
    keeps_others b free made other =
        d.keeps b free made (λ e. other (ap k.form e ∙ d.other (ap k.maker (sym e) ∙ made)))

    module _ (busy' : List ℕ) (words : List Word)
        (after : WordsAre m.adts k' x'.heap q.frame.serial busy' types is.known p.frame.variables p.frame.slots words)
        (own_same : after.own ≡ is.words.own)
        (answer : word_at words (pos answer_place) ≡ word_at q.frame.words (pos answer_place)) where
      abbrev pub moved : Process
      moved = moved_on m k i x busy Awaited p q s.stands (suc q.frame.pc) words q.made

      abbrev pub stands_then : Stands m k' i x' busy' Awaited p moved
      stands_then = record {
        number = s.stands.number;
        is = record {
          number = is.number;
          function = is.function;
          there = is.there;
          code = is.code;
          answer = is.answer;
          many = is.many;
          instance = d.grows.facts q.frame.instance _ is.instance;
          formed = d.grows.forms q.frame.instance _ is.formed;
          known = is.known;
          words = after;
          mine = λ u b h. d.grows.makers b i (is.mine u b (subst (λ (o : ℕ → List ℕ). Has (o u) b) own_same h));
          fresh = let l = is.fresh in let more = d.more in omega (arith, l, more);
        };
        goes = s.stands.goes;
        waits = all_wait m k' i x' Awaited p.frame.answer q.frame moved.frame p.below q.below refl answer
            (all_wait_later m k k' i x x' q.frame.serial d.grows d.more keeps_others Awaited p.frame.answer q.frame p.below q.below
            (omega arith) s.stands.waits);
      }

      abbrev pub way_then : OnWay known busy' (suc far) k' x' moved
      way_then = record {
        stands = stands_then;
        known_so = s.known_so;
        none_made = s.none_made;
        pc = let e = s.pc in omega (arith, e);
      }

      -- another such record stays so
      pub other_mine : (place : ℕ) (so_far : Facts → List Word → Type 0) → ((ws : List Word) → so_far k ws → so_far k' ws)
          → word_at words (pos place) ≡ word_at q.frame.words (pos place)
          → (o : Mine is.words.own place so_far k x q) → o.block ≢ c → Mine after.own place so_far k' x' moved
      other_mine place so_far grows same o ne = record {
        block = o.block;
        inner = o.inner;
        word = same ∙ o.word;
        there = (d.keeps o.block (free_so k o.block o.unknown) o.made ne).1 ∙ o.there;
        unknown = d.facts o.block ne ∙ o.unknown;
        made = d.grows.makers o.block i o.made;
        formed = d.grows.forms o.block _ o.formed;
        apart = λ u h. o.apart u (subst (λ (n : ℕ → List ℕ). Has (n u) o.block) own_same h);
        covered = λ e h. covers_grows k k' _ e d.grows (o.covered e h);
        so = grows o.inner o.so;
      }
