-- What is stored leaves memories that agree, and so what an instruction that goes on leaves.
use Rattle.std.proofs.Common.{◌≡◌, ℕ, suc, ℤ, Bool, true, false, List, length, refl, sym, ap, subst, if◌then◌else◌}
use Rattle.std.specs.Prelude.{Option, Some, None, pos, negsuc, slice_get, slice_set, ◌/◌, ◌%◌, ◌==◌, Result, Ok, Err}
use Rattle.process_model.specs.Process.{Went, Parks, Asks, Ends}
use Rattle.limbo_values.specs.declared.number.Kind.{Kind}
use Rattle.limbo_values.specs.declared.raised.Raised.{Raised}
use Rattle.limbo_values.specs.Operators.{text_of}
use Rattle.dis_meaning.specs.Words.{InBlock, InFrame, Word, Plain, Refer, Address, Access, Found, Wrong, Raises, ◌>>=◌, type_check}
use Rattle.dis_meaning.specs.Words.{or_wrong, word_at, fits, replaced, stored, plain, reference}
use Rattle.dis_meaning.specs.World as today
use Rattle.dis_meaning.specs.Laws.{ComeAlike}
use Rattle.dis_meaning.specs.Numbers.{number_at, with_number_at}
use Rattle.dis_meaning.specs.Process as process
use Rattle.dis_meaning.specs.Process.{Process, Printing, with_frames, at_pc, with_words}
use Rattle.dis_meaning.specs.Places as old
use Rattle.dis_meaning.specs.Places.{Spot, Own, Data, Far, words_in, all_frames, place_in, with_frame_words}
use Rattle.dis_meaning.specs.Step as step
use Rattle.dis_meaning.proofs.Replacing as replacing
use Rattle.dis_memory.specs.Blocks.{Sys, World, with_block}
use Rattle.dis_memory.specs.Places as new
use Rattle.dis_memory.specs.Places.{memory}
use Rattle.dis_memory.specs.Process.{Does, next}
use Rattle.dis_memory.specs.Raising.{unless_raised}
use Rattle.dis_memory.specs.Results as results
use Rattle.dis_memory.specs.Sound.{IsThere}
use Rattle.dis_memory.proofs.Growing.{more_there}
use Rattle.dis_agreement.specs.Agreement.{WorldsAgree, WaitsInside}
use Rattle.dis_agreement.proofs.Following.{Follows, found, wrong, raises, Same, finds, fails, throws, itself, chain, with_same}
use Rattle.dis_agreement.proofs.Blocks.{data_before, data_changes, with_sys, same_serial}
use Rattle.dis_agreement.proofs.Reading.{words_same, number_same}

-- ---- effects

-- The same was done, and worlds agree: all that an effect owes but that nothing dangles.
abbrev pub Done : process.Does → Does → Type 0
Done (Went x p) (Went y q) = (q ≡ p) × WorldsAgree x y × WaitsInside q.frame.instance q.printing
Done (Parks x bs p) (Parks y cs q) = (cs ≡ bs) × (q ≡ p) × WorldsAgree x y × WaitsInside q.frame.instance q.printing
Done (Asks x request p) (Asks y asked q) = (asked ≡ request) × (q ≡ p) × WorldsAgree x y × WaitsInside q.frame.instance q.printing
Done (Ends x how) (Ends y other) = (other ≡ how) × WorldsAgree x y
Done did does = ⊥

abbrev pub Obeys : Access process.Does → Access Does → Type 0
Obeys a b = Follows Done a b

pub record MemoriesAgree (m : old.Memory) (n : new.Memory) : Type 0 where
  pub worlds : WorldsAgree m.world n.world
  pub process : n.process ≡ m.process

-- The next instruction.
pub goes_on : (m : old.Memory) (n : new.Memory) → MemoriesAgree m n → Obeys (Found (step.next m)) (Found (next n))
goes_on m n a =
    found (step.next m) (next n)
    (ap (λ (p : Process). with_frames p (at_pc p.frame (suc p.frame.pc)) p.below p.made) a.process, a.worlds, tt)

pub then_next : {a : Access old.Memory} {b : Access new.Memory} → Follows MemoriesAgree a b
    → Obeys (a >>= λ m. Found (step.next m)) (b >>= λ m. Found (next m))
then_next f = chain _ _ f (λ m n d e a. goes_on m n a)

-- ---- what stands where something is stored

-- Where the second is found, so is the first; and what the second raises, the first does.
abbrev pub Before : {S T : Type 0} → Access S → Access T → Type 0
Before {S = S} a (Found t) = (s : S) × (a ≡ Found s)
Before a (Wrong n) = Unit {0}
Before a (Raises text) = a ≡ Raises text

stored_before : {S : Type 0} (kind : Word → Access S) (new : Word) → ((old : Word) → fits old new ≡ true → (s : S) × (kind old ≡ Found s))
    → (ws : List Word) (at : ℤ) → Before (word_at ws at >>= kind) (stored ws at new)
stored_before kind new h ws (negsuc n) = tt
stored_before kind new h ws (pos n) = go (n % 4 == 0)
  where
    last : (old : Word) (b : Bool) → fits old new ≡ b → Before (kind old) (if b then Found (slice_set ws (n / 4) new) else Wrong type_check)
    last old true e = h old e
    last old false e = tt

    inner : (o : Option Word)
        → Before (or_wrong type_check o >>= kind)
        (or_wrong type_check o >>= λ old. if fits old new then Found (slice_set ws (n / 4) new) else Wrong type_check)
    inner None = tt
    inner (Some old) = last old (fits old new) refl

    go : (b : Bool)
        → Before ((if b then Found (n / 4) else Wrong type_check) >>= (λ k. or_wrong type_check (slice_get ws k)) >>= kind)
        ((if b then Found (n / 4) else Wrong type_check) >>= λ k. replaced ws k new)
    go true = inner (slice_get ws (n / 4))
    go false = tt

plain_before : (new : Word) → plain new ≡ Found new → (old : Word) → fits old new ≡ true → (v : Word) × (plain old ≡ Found v)
plain_before new e (Plain z) f = (Plain z, refl)
plain_before new e (Address place at) f = (Address place at, refl)
plain_before (Plain z) e (Refer r) f = absurd cc
plain_before (Address place at) e (Refer r) f = absurd cc
plain_before (Refer s) e (Refer r) f = absurd cc

reference_before : (r : Option ℕ) (old : Word) → fits old (Refer r) ≡ true → (s : Option ℕ) × (reference old ≡ Found s)
reference_before r (Refer s) f = (s, refl)
reference_before r (Plain z) f = absurd cc
reference_before r (Address place at) f = absurd cc

number_before : (kind : Kind) (ws : List Word) (at z : ℤ) → Before (number_at kind ws at) (with_number_at kind ws at z)
number_before kind ws at z = go (number_at kind ws at) (with_number_at kind ws at z) (replacing.numbers_are_replaced kind ws at z)
  where
    go : (a : Access ℤ) (b : Access (List Word)) → ComeAlike a b → Before a b
    go (Found s) (Found t) c = (s, refl)
    go (Found s) (Wrong n) c = tt
    go (Found s) (Raises text) c = absurd c
    go (Wrong n) (Found t) c = absurd c
    go (Wrong n) (Wrong m) c = tt
    go (Wrong n) (Raises text) c = absurd c
    go (Raises t) (Found s) c = absurd c
    go (Raises t) (Wrong n) c = tt
    go (Raises t) (Raises text) c = ap Raises c

-- A place is looked at before something is stored there.
pub placed : {S : Type 0} {a b c : Access (List Word)} → Same a b → Same a c → (read : Access (List Word) → Access S)
    (put : List Word → Access (List Word)) → ((text : List ℕ) → read (Raises text) ≡ Raises text)
    → ((ws : List Word) → Before (read (Found ws)) (put ws))
    → (f : List Word → Access old.Memory) (g : List Word → Access new.Memory)
    → ((ws us : List Word) → a ≡ Found ws → Follows MemoriesAgree (f us) (g us))
    → Obeys ((a >>= λ ws. put ws >>= f) >>= λ m. Found (step.next m))
    (read b >>= λ old. (c >>= λ ws. put ws >>= g) >>= λ m. Found (next m))
placed {S = S} (finds ws) s read put through before f g h = again s
  where
    go : (r : Access S) (u : Access (List Word)) → Before r u
        → Obeys ((u >>= f) >>= λ m. Found (step.next m)) (r >>= λ old. (u >>= g) >>= λ m. Found (next m))
    go r (Found us) t =
        subst (λ v. Obeys ((f us) >>= λ m. Found (step.next m)) (v >>= λ old. (g us) >>= λ m. Found (next m))) (sym t.1)
        (then_next (h ws us refl))
    go r (Wrong n) t = wrong n _
    go r (Raises text) t = subst (λ v. Obeys (Raises text) (v >>= λ old. Raises text)) (sym t) (raises text)

    again : {c : Access (List Word)} → Same (Found ws) c
        → Obeys ((put ws >>= f) >>= λ m. Found (step.next m))
        (read (Found ws) >>= λ old. (c >>= λ ws. put ws >>= g) >>= λ m. Found (next m))
    again (finds vs) = go (read (Found vs)) (put vs) (before vs)
placed (fails n b) s read put through before f g h = wrong n _
placed (throws text) s read put through before f g h = first s
  where
    first : {c : Access (List Word)} → Same (Raises text) c
        → Obeys (Raises text) (read (Raises text) >>= λ old. (c >>= λ ws. put ws >>= g) >>= λ m. Found (next m))
    first {c = c} s =
        subst (λ v. Obeys (Raises text) (v >>= λ old. (c >>= λ ws. put ws >>= g) >>= λ m. Found (next m))) (sym (through text))
        (raises text)

-- ---- what is stored

module _ (x : today.World) (y : World) (p : Process) (w : WorldsAgree x y) (here : IsThere y 0) where
  pub words_follow : (s : Spot) (was words : List Word) → old.words_at x p s ≡ Found was
      → Follows MemoriesAgree (old.with_words_at x p s words) (new.with_words_at y p s words)
  words_follow (Own k) was words e = found _ _ (record { worlds = w; process = refl })
  words_follow (Data k) was words e =
      chain _ _ (data_changes x y w here p.frame.instance was words e) (λ u v f g r. found _ _ (record { worlds = r; process = refl }))
  words_follow (Far (InFrame s) k) was words e = found _ _ (record { worlds = w; process = refl })
  words_follow (Far (InBlock n) k) was words e =
      chain _ _ (data_changes x y w here n was words e) (λ u v f g r. found _ _ (record { worlds = r; process = refl }))

  pub store_follows : (s : Spot) (v : Word) → Follows MemoriesAgree (old.store x p s v) (new.store y p s v)
  store_follows s v =
      with_same _ _ (words_same x y p w here s)
      (λ ws e f. with_same _ _ (itself (stored ws (place_in s) v)) (λ us a b. words_follow s ws us e))

  -- A plain word, and a reference that is there.
  pub gives_plain : (s : Spot) (v : Word) → plain v ≡ Found v
      → Obeys (old.store x p s v >>= λ m. Found (step.next m)) (results.gives_plain_at y p s (Found v))
  gives_plain s v e =
      let r = words_same x y p w here s in
      placed r r (λ a. (a >>= λ ws. word_at ws (place_in s)) >>= plain) (λ ws. stored ws (place_in s) v) (λ text. refl)
      (λ ws. stored_before plain v (plain_before v e) ws (place_in s)) (old.with_words_at x p s) (new.with_words_at y p s)
      (λ ws us f. words_follow s ws us f)

  pub gives_reference : (s : Spot) (r : Option ℕ)
      → Obeys (old.store x p s (Refer r) >>= λ m. Found (step.next m)) (results.gives_reference_at y p s (Found r))
  gives_reference s v =
      let r = words_same x y p w here s in
      placed r r (λ a. (a >>= λ ws. word_at ws (place_in s)) >>= reference) (λ ws. stored ws (place_in s) (Refer v)) (λ text. refl)
      (λ ws. stored_before reference (Refer v) (reference_before v) ws (place_in s)) (old.with_words_at x p s) (new.with_words_at y p s)
      (λ ws us f. words_follow s ws us f)

  -- A number, or what comes in its place.
  gives_found : (kind : Kind) (s : Spot) (z : ℤ)
      → Obeys (old.store_number kind x p s z >>= λ m. Found (step.next m)) (results.gives_number_at y p kind s (Found z))
  gives_found kind s z =
      let r = words_same x y p w here s in
      placed r r (λ a. a >>= λ ws. number_at kind ws (place_in s)) (λ ws. with_number_at kind ws (place_in s) z) (λ text. refl)
      (λ ws. number_before kind ws (place_in s) z) (old.with_words_at x p s) (new.with_words_at y p s)
      (λ ws us f. words_follow s ws us f)

  pub gives_number : (kind : Kind) (s : Spot) (r : Result ℤ Raised)
      → Obeys (step.results kind x p s r) (results.gives_number_at y p kind s (unless_raised r))
  gives_number kind s (Ok z) = gives_found kind s z
  gives_number kind s (Err raised) = with_same _ _ (number_same x y p w here kind s) (λ z e f. raises (text_of raised))

-- The built-in module is a new block, to which a reference is stored.
module _ (x : today.World) (y : World) (p : Process) (w : WorldsAgree x y) (here : IsThere y 0) (names : List (List ℕ)) where
  before_same : (s : Spot) → Same (old.words_at (today.with_block x (today.Sys names)) p s) (new.words_at y p s)
  before_same (Own k) = finds _
  before_same (Data k) = data_before x y w here names p.frame.instance
  before_same (Far (InFrame s) k) = itself (words_in s (all_frames p))
  before_same (Far (InBlock n) k) = data_before x y w here names n

  pub gives_sys : (s : Spot)
      → Obeys (old.store (today.with_block x (today.Sys names)) p s (Refer (Some (length x.blocks))) >>= λ m. Found (step.next m))
      (results.gives_block_at y p s (Found (Sys names)))
  gives_sys s =
      let u = with_sys x y w names in
      let there : IsThere (with_block y (Sys names)) 0 = (here.0, more_there y.heap (Some (Sys names)) 0 here.0 here.1) in
      let v = Refer (Some (length x.blocks)) in
      subst
      (λ n. Obeys (old.store (today.with_block x (today.Sys names)) p s v >>= λ m. Found (step.next m))
      (new.reference_at y p s >>= λ old. new.store (with_block y (Sys names)) p s (Refer (Some n)) >>= λ m. Found (next m)))
      (sym (same_serial x y w))
      (placed (before_same s) (words_same (today.with_block x (today.Sys names)) (with_block y (Sys names)) p u there s)
      (λ a. (a >>= λ ws. word_at ws (place_in s)) >>= reference) (λ ws. stored ws (place_in s) v) (λ text. refl)
      (λ ws. stored_before reference v (reference_before (Some (length x.blocks))) ws (place_in s))
      (old.with_words_at (today.with_block x (today.Sys names)) p s) (new.with_words_at (with_block y (Sys names)) p s)
      (λ ws us f. words_follow (today.with_block x (today.Sys names)) (with_block y (Sys names)) p u there s ws us f))
