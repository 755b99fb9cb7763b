-- A number goes to a place of the program: what the machine's memory is then stands for what the program's is.
use Rattle.std.proofs.Common.{◌≡◌, ℕ, zero, suc, ◌<◌, ◌≤◌, ℤ, pos, List, [], ◌∷◌, ◌++◌, Some, refl, sym, ap, ◌∙◌, subst, arith, inl}
use Rattle.std.specs.Prelude.{slice_get, slice_set}
use Rattle.limbo_values.specs.declared.number.Kind.{Kind}
use Rattle.limbo_values.specs.Numbers.{InRange}
use Rattle.system_model.specs.Values.{Value, Num}
use Rattle.typed_meaning.specs.Values.{number_of}
use Rattle.typed_meaning.specs.World as program
use Rattle.typed_meaning.specs.World.{with_global}
use Rattle.slot_code.specs.Code.{Spot, Variable, Global, Temporary, Argument, Function, Module}
use Rattle.slot_code.specs.Layout.{end_of}
use Rattle.slot_code.specs.Machine as machine
use Rattle.slot_code.specs.Machine.{Made}
use Rattle.dis_meaning.specs.Words as dis_words
use Rattle.dis_meaning.specs.Words.{Word, Found, ◌>>=◌, dead_address, or_wrong, number_in}
use Rattle.dis_meaning.specs.Numbers.{with_number_at}
use Rattle.dis_meaning.specs.World.{Content, Instance, Sys, World, with_content}
use Rattle.dis_meaning.specs.Process.{Process, with_words, with_frames}
use Rattle.dis_meaning.specs.Places as places
use Rattle.dis_meaning.specs.Places.{Own, Data, Memory, spot, store, store_number, with_data, renewed, data_at}
use Rattle.dis_objects.specs.Frames.{Callee, room_of, count, variable_place, temporary_place, ready_place, all_bytes, most_bytes}
use Rattle.dis_objects.specs.Code.{Context, spot_kind, place_of, global_place}
use Rattle.dis_objects.specs.Proper.{IsWritten, IsArgument}
use Rattle.dis_follows.specs.Numbers.{Holds}
use Rattle.dis_follows.specs.Stands.{Known, HasNumbers, AllReady, WorldStands, context_of}
use Rattle.dis_follows.proofs.Written.{Stored}
use Rattle.dis_follows.proofs.Frames.{variable_written, temporary_written, set_long}
use Rattle.dis_follows.proofs.Given.{argument_written, has_room}
use Rattle.dis_follows.proofs.Places.{end_least}
use Rattle.dis_follows.proofs.Rooms.{variable_first, temporary_first, whole_least}
use Rattle.dis_follows.proofs.Globals.{global_written}
use Rattle.dis_follows.proofs.Operands.{data_are}

module _ (m : Module) (k : Known) (w : program.World) (x : World) (ws : WorldStands m k w x) (g : machine.Frame) (r : Process)
    (f : Function)
    (cs : List Callee) (h : HasNumbers m f cs g r.frame.words) (fits : all_bytes m.functions cs ≤ most_bytes m.functions [] f.code)
    (instance : r.frame.instance ≡ 0) (first : g.instance ≡ 0) where
  abbrev C : Context
  C = context_of m g f

  -- The words among which a place is, where it is, and how the machine names it.
  abbrev pub words_of : Spot → List Word
  words_of (Global j y) = ws.words
  words_of s = r.frame.words

  abbrev pub bytes_of : Spot → ℕ
  bytes_of (Variable j y) = variable_place f y
  bytes_of (Global j y) = global_place m.globals j y
  bytes_of (Temporary j n) = temporary_place (room_of m.functions f) j n
  bytes_of (Argument j i) = ready_place m.functions (room_of m.functions f) cs i

  abbrev pub named : Spot → places.Spot
  named (Global j y) = Data (pos (global_place m.globals j y))
  named s = Own (pos (bytes_of s))

  -- The memory where these words are in their place.
  abbrev pub remembered : Spot → List Word → Memory
  remembered (Global j y) after = record { world = with_content x 0 (Instance 0 after); process = r }
  remembered s after = record { world = x; process = with_frames r (with_words r.frame after) r.below r.made }

  -- ---- a number is there

  held_argument : (cs : List Callee) (mades : List Made) (j : Kind) (i : ℕ) → IsArgument m f cs j i
      → AllReady m r.frame.words (room_of m.functions f) cs mades
      → (v : Value) × Holds j r.frame.words (ready_place m.functions (room_of m.functions f) cs i) v
  held_argument [] mades j i e a = absurd (nothing e)
    where
      nothing : IsArgument m f [] j i → ⊥
      nothing e = e
  held_argument (c ∷ cs) [] j i e a = absurd a
  held_argument (c ∷ cs) (made ∷ mades) j i e a = (made.arguments i, a.0.each i j _ (has_room m c cs i j f e))

  pub held : (s : Spot) → IsWritten m f cs s → ((j : Kind) (n : ℕ) → s ≡ Temporary j n → n < count j f.code)
      → (v : Value) × Holds (spot_kind s) (words_of s) (bytes_of s) v
  held (Variable j y) e few = (_, h.variables y j e)
  held (Global j y) e few = (_, ws.has.variables y j e.0 e.1 e.2)
  held (Temporary j n) e few = (_, h.temporaries j n (few j n refl))
  held (Argument j i) e few = held_argument cs g.made j i e h.made

  abbrev in_frame : List Word → Memory
  in_frame words = record { world = x; process = with_frames r (with_words r.frame words) r.below r.made }

  -- ---- the memory that a store makes

  pub spot_is : (s : Spot) → spot x r (place_of C cs s) ≡ Found (named s)
  spot_is (Variable j y) = refl
  spot_is (Global j y) = refl
  spot_is (Temporary j n) = refl
  spot_is (Argument j i) = refl

  data_kept : (after : List Word) → with_data x 0 after ≡ Found (with_content x 0 (Instance 0 after))
  data_kept after =
      ap (λ bs. or_wrong dead_address (slice_get bs 0) >>= λ c. Found (with_content x 0 (renewed after c))) ws.blocks

  abbrev in_world : World → Memory
  in_world y = record { world = y; process = r }

  stored_data : (after : List Word) → (with_data x r.frame.instance after >>= λ y. Found (in_world y))
      ≡ Found (in_world (with_content x 0 (Instance 0 after)))
  stored_data after =
      ap (λ n. with_data x n after >>= λ y. Found (in_world y)) instance ∙ ap (λ a. a >>= λ y. Found (in_world y)) (data_kept after)

  data_there : places.words_at x r (Data (pos 0)) ≡ Found ws.words
  data_there = ap (data_at x) instance ∙ data_are m k w x ws

  pub number_stored : (s : Spot) (z : ℤ) (after : List Word) → with_number_at (spot_kind s) (words_of s) (pos (bytes_of s)) z ≡ Found after
      → store_number (spot_kind s) x r (named s) z ≡ Found (remembered s after)
  number_stored (Variable j y) z after e =
      ap (λ a. a >>= λ ws. Found (in_frame ws)) e
  number_stored (Temporary j n) z after e =
      ap (λ a. a >>= λ ws. Found (in_frame ws)) e
  number_stored (Argument j i) z after e =
      ap (λ a. a >>= λ ws. Found (in_frame ws)) e
  number_stored (Global j y) z after e =
      ap (λ a. a >>= λ words. with_number_at j words (pos (global_place m.globals j y)) z >>= places.with_words_at x r (named (Global j y)))
      data_there
      ∙ ap (λ a. a >>= places.with_words_at x r (named (Global j y))) e ∙ stored_data after

  pub word_stored : (s : Spot) (new : Word) (after : List Word) → dis_words.stored (words_of s) (pos (bytes_of s)) new ≡ Found after
      → store x r (named s) new ≡ Found (remembered s after)
  word_stored (Variable j y) new after e =
      ap (λ a. a >>= λ ws. Found (in_frame ws)) e
  word_stored (Temporary j n) new after e =
      ap (λ a. a >>= λ ws. Found (in_frame ws)) e
  word_stored (Argument j i) new after e =
      ap (λ a. a >>= λ ws. Found (in_frame ws)) e
  word_stored (Global j y) new after e =
      ap (λ a. a >>= λ words. dis_words.stored words (pos (global_place m.globals j y)) new >>= places.with_words_at x r
      (named (Global j y)))
      data_there
      ∙ ap (λ a. a >>= places.with_words_at x r (named (Global j y))) e ∙ stored_data after

  -- ---- it stands for what the program has then

  pub record Put (s : Spot) (z : ℤ) (after : List Word) : Type 0 where
    pub numbers : HasNumbers m f cs (machine.stored w g s (Num z)).frame (remembered s after).process.frame.words
    pub worlds : WorldStands m k (machine.stored w g s (Num z)).world (remembered s after).world
    pub linkage : slice_get (remembered s after).process.frame.words 4 ≡ slice_get r.frame.words 4

  abbrev pub FewFits : Spot → Type 0
  FewFits s = (j : Kind) (n : ℕ) → s ≡ Temporary j n → n < count j f.code

  same_texts : (after : List Word) (n : ℕ) (names : List (List ℕ)) → slice_get x.blocks n ≡ Some (Sys names)
      → slice_get (with_content x 0 (Instance 0 after)).blocks n ≡ Some (Sys names)
  same_texts after zero names e = absurd (not_sys (sym (ap (λ bs. slice_get bs 0) ws.blocks) ∙ e))
    where
      not_sys : Some (Instance 0 ws.words) ≡ Some (Sys names) → ⊥
      not_sys e = cc
  same_texts after (suc n) names e = behind x.blocks n e
    where
      behind : (bs : List Content) (n : ℕ) → slice_get bs (suc n) ≡ Some (Sys names) → slice_get (slice_set bs 0 (Instance 0 after)) (suc n)
          ≡ Some (Sys names)
      behind [] n e = e
      behind (b ∷ bs) n e = e

  blocks_after : (after : List Word) → (with_content x 0 (Instance 0 after)).blocks ≡ Instance 0 after ∷ (ws.texts ++ ws.more)
  blocks_after after = ap (λ bs. slice_set bs 0 (Instance 0 after)) ws.blocks

  local_put : (s : Spot) (z : ℤ) (after : List Word) (j : Kind) (at : ℕ) → 32 ≤ at → (t : Stored j r.frame.words at z)
      → remembered s t.after ≡ in_frame t.after → (machine.stored w g s (Num z)).world ≡ w
      → HasNumbers m f cs (machine.stored w g s (Num z)).frame t.after → Put s z t.after
  local_put s z after j at l t same world numbers = record {
    numbers = subst (λ (q : Memory). HasNumbers m f cs (machine.stored w g s (Num z)).frame q.process.frame.words) (sym same) numbers;
    worlds = subst (λ v. WorldStands m k v (remembered s t.after).world) (sym world)
        (subst (λ (q : Memory). WorldStands m k w q.world) (sym same) ws);
    linkage = ap (λ (q : Memory). slice_get q.process.frame.words 4) same ∙ t.words_stay.others 4 (inl (omega (arith, l)));
  }

  argument_put : (cs' : List Callee) (mades : List Made) → cs ≡ cs' → g.made ≡ mades → (j : Kind) (i : ℕ) (z : ℤ) → InRange j z
      → IsArgument m f cs' j i → AllReady m r.frame.words (room_of m.functions f) cs' mades
      → (t : Stored j r.frame.words (ready_place m.functions (room_of m.functions f) cs i) z)
      → HasNumbers m f cs (record g { made = machine.given i (Num z) g.made }) t.after
  argument_put [] mades ec em j i z r' e a t = absurd (nothing e)
    where
      nothing : IsArgument m f [] j i → ⊥
      nothing e = e
  argument_put (c ∷ others) [] ec em j i z r' e a t = absurd a
  argument_put (c ∷ others) (made ∷ mades) ec em j i z r' e a t =
      subst (λ ms. HasNumbers m f cs (record g { made = machine.given i (Num z) ms }) t.after) (sym em)
      (go cs ec h fits t)
    where
      go : (cs : List Callee) → cs ≡ c ∷ others → HasNumbers m f cs g r.frame.words
          → all_bytes m.functions cs ≤ most_bytes m.functions [] f.code
          → (t : Stored j r.frame.words (ready_place m.functions (room_of m.functions f) cs i) z)
          → HasNumbers m f cs (record g { made = machine.with_argument i (Num z) made ∷ mades }) t.after
      go [] q h' fits' t' = absurd cc
      go (c' ∷ others') q h' fits' t' =
          let e' : IsArgument m f (c' ∷ others') j i = subst (λ cs. IsArgument m f cs j i) (sym q) e in
          argument_written m f c' others' g made mades r.frame.words h' em fits' i j z r' e' t'

  pub put_there : (s : Spot) (z : ℤ) → IsWritten m f cs s → FewFits s → InRange (spot_kind s) z
      → (t : Stored (spot_kind s) (words_of s) (bytes_of s) z) → Put s z t.after
  put_there (Variable j y) z e few r' t =
      local_put (Variable j y) z t.after j (variable_place f y) (variable_first f y) t refl refl
      (variable_written m f cs g r.frame.words h fits y j z r' e t)
  put_there (Temporary j n) z e few r' t =
      local_put (Temporary j n) z t.after j _ (omega (arith, end_least 32 f.variables, temporary_first m.functions f j n)) t refl refl
      (temporary_written m f cs g r.frame.words h fits j n z r' (few j n refl) t)
  put_there (Argument j i) z e few r' t =
      local_put (Argument j i) z t.after j _ (past_linkage cs e) t refl refl (argument_put cs g.made refl refl j i z r' e h.made t)
    where
      past_linkage : (cs : List Callee) → IsArgument m f cs j i → 32 ≤ ready_place m.functions (room_of m.functions f) cs i
      past_linkage [] e = absurd (nothing e)
        where
          nothing : IsArgument m f [] j i → ⊥
          nothing e = e
      past_linkage (c ∷ cs) e = omega (arith, end_least 32 f.variables, whole_least (end_of 32 f.variables))
  put_there (Global j y) z e few r' t = record {
    numbers = h;
    worlds = subst (λ i. WorldStands m k (with_global w i y (number_of j (Num z))) (with_content x 0 (Instance 0 t.after))) (sym first)
        (record {
          outside = ws.outside;
          frames = ws.frames;
          some = subst (λ n. 0 < n) (sym (set_long w.instances 0 (slice_set (program.instance_of w 0) y (number_of j (Num z))))) ws.some;
          words = t.after;
          texts = ws.texts;
          more = ws.more;
          blocks = blocks_after t.after;
          opened = ws.opened;
          has = global_written m k w x.blocks (with_content x 0 (Instance 0 t.after)).blocks ws.words y j e.0 z ws.has r' e.1 e.2 t
              (same_texts t.after) ws.some;
        });
    linkage = refl;
  }
