-- The entry of the code: Sys is loaded, the answer of the first function has a place, and the function begins.
use Rattle.std.proofs.Common.{◌≡◌, ℕ, suc, ◌+◌, ◌<◌, ◌≤◌, pos, ◌*◌, true, List, [], ◌∷◌, ◌++◌, length, Option, Some, None, refl, sym, ap}
use Rattle.std.proofs.Common.{◌∙◌, subst, arith, codes, append_assoc, if◌then◌else◌}
use Rattle.std.specs.Prelude.{slice_get, slice_set}
use Rattle.dis_isa.specs.declared.inst.Inst as code_inst
use Rattle.dis_isa.specs.declared.inst.Middle.TheVariants as middle
use Rattle.dis_isa.specs.declared.inst.Operand.TheVariants as operand
use Rattle.dis_isa.specs.declared.op.Op.TheVariants as op
use Rattle.limbo_values.specs.declared.number.Kind.{Kind}
use Rattle.system_model.specs.Limits.{frames_limit}
use Rattle.typed_meaning.specs.World as program
use Rattle.slot_code.specs.Code.{Function, Module}
use Rattle.slot_code.specs.Machine as machine
use Rattle.dis_meaning.specs.Words.{Word, Refer, Address, InFrame, Found, Wrong, ◌>>=◌, type_check, dead_address, or_wrong, word_at}
use Rattle.dis_meaning.specs.Words.{reference, fits, stored}
use Rattle.dis_meaning.specs.Numbers.{number_at}
use Rattle.dis_meaning.specs.World.{Content, Instance, Sys, World, with_block, with_content}
use Rattle.dis_meaning.specs.Process as dis
use Rattle.dis_meaning.specs.Process.{Frame, Process, at_pc, with_words, with_frames}
use Rattle.dis_meaning.specs.Places.{Own, Data, Memory, data_of, data_at, renewed, store}
use Rattle.dis_meaning.specs.Step as dis_step
use Rattle.dis_meaning.specs.Step.{next, names, text_at, loaded, target}
use Rattle.dis_objects.specs.Frames.{passing_place}
use Rattle.dis_objects.specs.Code.{inst, own, place, path_word, sys_word, global_place}
use Rattle.dis_objects.specs.Objects.{entry, begins as begins_code, base_of, context, entry_size, entry_length, functions_code}
use Rattle.dis_objects.specs.Objects.{functions_data, data_place, sys_imports, init_of, object_of}
use Rattle.dis_objects.specs.Proper.{IsProper}
use Rattle.dis_follows.specs.Start.{opening, opening_words}
use Rattle.dis_follows.specs.Stands.{Known, HasNumbers, StackStands, Entering, Running, loads, leaves, begins, WorldStands}
use Rattle.dis_follows.specs.Paces as paces
use Rattle.dis_follows.proofs.Stores.{same_words, set_other}
use Rattle.dis_follows.proofs.Written.{holds_on, set_there, store_word_over, word_there}
use Rattle.dis_follows.proofs.Operands.{data_are}
use Rattle.dis_follows.proofs.Globals.{data_same}
use Rattle.dis_follows.proofs.Lookups.{HasAt, has_behind}
use Rattle.dis_follows.proofs.Linkage.{linkage_word, linkage_there, linkage_written}
use Rattle.dis_follows.proofs.Runs.{step_is, as_known}
use Rattle.dis_follows.proofs.Advances.{there, rests}
use Rattle.dis_follows.proofs.Paces.{entry_place}
use Rattle.dis_follows.proofs.JumpsOn.{begin_place}
use Rattle.dis_follows.proofs.Calls.{entry_is}
use Rattle.dis_follows.proofs.Prints.{text_stays}
use Rattle.dis_follows.proofs.Decided.{Goal}

get_last : {A : Type 0} (xs : List A) (x : A) → slice_get (xs ++ x ∷ []) (length xs) ≡ Some x
get_last [] x = refl
get_last (y ∷ xs) x = get_last xs x

some_of : {A : Type 0} (o : Option A) (a : A) → or_wrong type_check o ≡ Found a → o ≡ Some a
some_of None a e = absurd cc
some_of (Some b) a e = let same : b ≡ a = cc in ap Some same

module _ (m : Module) (proper : IsProper m) (k : Known) (number : ℕ) (w : program.World) (x : World) (ws : WorldStands m k w x)
    (p : machine.Process) (r : Process) (pc : ℕ) (h : Entering m k p r pc) where
  abbrev F : Function
  F = h.function

  abbrev base : ℕ
  base = base_of m.functions h.init

  -- The code begins so.
  code_is : HasAt (object_of m).insts 0 (begins_code base)
  code_is =
      let e : entry m.functions (init_of m) ≡ begins_code base = ap (entry m.functions) h.is_init in
      subst (λ l. HasAt (l ++ functions_code m 0 (data_place m) m.functions) 0 (begins_code base)) (sym e)
      (has_behind [] (begins_code base) (functions_code m 0 (data_place m) m.functions))

  three : entry_size m.functions ≡ 3
  three = ap entry_length h.is_init

  abbrev G : dis.Does → Type 0
  G e = Goal m proper k number w x ws p r e

  by_entry : (i : code_inst.Inst) (e : dis.Does) → slice_get (object_of m).insts pc ≡ Some i
      → dis_step.obey frames_limit (object_of m) x r i i.op ≡ Found e
      → G e → G (dis_step.step frames_limit (object_of m ∷ []) x r)
  by_entry i e at does done =
      subst G (sym (step_is m k w x r i e ws h.instance (subst (λ c. slice_get (object_of m).insts c ≡ Some i) (sym h.here) at) does)) done

  its_place : pc < 3 → paces.place m r ≡ pc
  its_place l = entry_place m r (let t = three in let a = h.here in omega (arith, l, t, a)) ∙ h.here

  -- The same process further on, with these words.
  abbrev further : List Word → Process
  further words = record {
    number = r.number;
    frame = record { serial = r.frame.serial; instance = r.frame.instance; pc = suc r.frame.pc; words = words };
    below = r.below;
    made = r.made;
    printing = None;
  }

  abbrev entering_on : (now : Known) (words : List Word) (at : ℕ) → suc r.frame.pc ≡ at → HasNumbers m F [] p.frame words
      → r.frame.serial < now.frames
      → Entering m now p (further words) at
  entering_on now words at here has fresh = record {
    init = h.init;
    is_init = h.is_init;
    function = F;
    found = h.found;
    number = h.number;
    frame = h.frame;
    alone = h.alone;
    alone_too = h.alone_too;
    here = here;
    instance = h.instance;
    has = has;
    frames = h.frames;
    fresh = fresh;
  }

  further_place : (words : List Word) (at : ℕ) → suc r.frame.pc ≡ at → at < 3 → paces.place m (further words) ≡ at
  further_place words at e l = entry_place m (further words) (let t = three in omega (arith, l, t, e)) ∙ e

  -- ---- Sys is loaded

  abbrev with_sys : Known
  with_sys = record { loaded = true; frames = k.frames }

  abbrev sys_block : Content
  sys_block = Sys (names sys_imports)

  abbrev new_words : List Word
  new_words = slice_set ws.words 1 (Refer (Some (length x.blocks)))

  abbrev new_world : World
  new_world = with_content (with_block x sys_block) 0 (Instance 0 new_words)

  data_block : slice_get (x.blocks ++ sys_block ∷ []) r.frame.instance ≡ Some (Instance 0 ws.words)
  data_block =
      ap (slice_get (x.blocks ++ sys_block ∷ [])) h.instance ∙ ap (λ bs. slice_get (bs ++ sys_block ∷ []) 0) ws.blocks

  is_loaded : loaded x r (Data (pos 4)) (codes "$Sys") sys_imports ≡ Found (record { world = new_world; process = r })
  is_loaded =
      let new = Refer (Some (length x.blocks)) in
      ap (λ o. (or_wrong dead_address o >>= data_of) >>= λ words. stored words (pos 4) new >>= λ after.
      (or_wrong dead_address o >>= λ c. Found (with_content (with_block x sys_block) r.frame.instance (renewed after c))) >>= λ y.
      Found (record { world = y; process = r })) data_block
      ∙ ap (λ o. (or_wrong type_check o >>= λ old. if fits old new then Found new_words else Wrong type_check) >>= λ after.
      Found (record { world = with_content (with_block x sys_block) r.frame.instance (Instance 0 after); process = r })) ws.has.module_word
      ∙ ap (λ i. Found (record { world = with_content (with_block x sys_block) i (Instance 0 new_words); process = r })) h.instance

  new_blocks : new_world.blocks ≡ Instance 0 new_words ∷ (ws.texts ++ (ws.more ++ sys_block ∷ []))
  new_blocks =
      ap (λ bs. slice_set (bs ++ sys_block ∷ []) 0 (Instance 0 new_words)) ws.blocks
      ∙ ap (λ l. Instance 0 new_words ∷ l) (append_assoc ws.texts ws.more (sys_block ∷ []))

  sys_there : slice_get new_world.blocks (length x.blocks) ≡ Some sys_block
  sys_there =
      set_other (x.blocks ++ sys_block ∷ []) 0 (length x.blocks) (Instance 0 new_words)
      (λ e. let l = ap length ws.blocks in absurd (omega (arith, e, l)))
      ∙ get_last x.blocks sys_block

  word_same : (i : ℕ) → 8 ≤ 4 * i → slice_get new_words i ≡ slice_get ws.words i
  word_same i l = set_other ws.words 1 i (Refer (Some (length x.blocks))) (λ e. omega (arith, e, l))

  number_same : (j : Kind) (at : ℕ) → 8 ≤ at → number_at j new_words (pos at) ≡ number_at j ws.words (pos at)
  number_same j at l = same_words j new_words ws.words at (λ i a b. word_same i (omega (arith, a, l)))

  loaded_stands : WorldStands m with_sys w new_world
  loaded_stands = record {
    outside = ws.outside;
    frames = ws.frames;
    some = ws.some;
    words = new_words;
    texts = ws.texts;
    more = ws.more ++ sys_block ∷ [];
    blocks = new_blocks;
    opened = ws.opened;
    has = record {
      path = set_other ws.words 1 0 (Refer (Some (length x.blocks))) (λ e. cc) ∙ ws.has.path;
      sys = Some (length x.blocks);
      module_word = set_there ws.words 1 (Refer (Some (length x.blocks))) (Refer ws.has.sys) ws.has.module_word;
      loaded = λ e. (length x.blocks, refl, sys_there);
      many = ws.has.many;
      variables = λ y j g e kind.
          holds_on j ws.words new_words (global_place m.globals j y) _ (number_same j (global_place m.globals j y) (omega arith))
          (ws.has.variables y j g e kind);
      constants = data_same m ws.words new_words (data_place m) (functions_data m.functions m.functions)
          (λ j bt l. number_same j bt (omega (arith, l))) (λ i l. word_same i (omega (arith, l))) ws.has.constants;
      zeros = λ j a b. word_same j (omega (arith, a)) ∙ ws.has.zeros j a b;
    };
  }

  pub enters_goes : pc ≡ 0 → G (dis_step.step frames_limit (object_of m ∷ []) x r)
  enters_goes z =
      let at : suc r.frame.pc ≡ 1 = let a = h.here in omega (arith, a, z) in
      let i = inst op.Load path_word (middle.Imm (pos 0)) sys_word in
      let text = text_stays (opening m).blocks x.blocks ws.texts ws.more (Instance 0 (opening_words m)) (Instance 0 ws.words) 1
      (codes "$Sys")
      ws.opened ws.blocks (λ e. cc) refl in
      by_entry i _ (ap (slice_get (object_of m).insts) z ∙ code_is.0)
      (ap (λ n. (data_at x n >>= λ words. word_at words (pos 0)) >>= reference >>= text_at x >>= λ path.
      loaded x r (Data (pos 4)) path sys_imports >>= λ m. Found (next m)) h.instance
      ∙ ap (λ a. (a >>= λ words. word_at words (pos 0)) >>= reference >>= text_at x >>= λ path.
      loaded x r (Data (pos 4)) path sys_imports >>= λ m. Found (next m)) (data_are m k w x ws)
      ∙ ap (λ o. or_wrong type_check o >>= reference >>= text_at x >>= λ path. loaded x r (Data (pos 4)) path sys_imports >>= λ m.
      Found (next m)) ws.has.path
      ∙ ap (λ o. (or_wrong dead_address o >>= dis_step.text_of) >>= λ path. loaded x r (Data (pos 4)) path sys_imports >>= λ m.
      Found (next m)) text
      ∙ ap (λ a. a >>= λ m. Found (next m)) is_loaded)
      (rests m (paces.place m) k number x w p (paces.place m r) with_sys new_world (further r.frame.words) (record {
        stays = λ e. refl;
        rises = omega arith;
      })
      (loads refl (entering_on with_sys r.frame.words 1 at h.has h.fresh)) loaded_stands
      (let a = its_place (omega (arith, z)) in let c = further_place r.frame.words 1 at (omega arith) in omega (arith, a, c, z)))

  -- ---- the place for the answer

  pub loads_goes : pc ≡ 1 → k.loaded ≡ true → G (dis_step.step frames_limit (object_of m ∷ []) x r)
  loads_goes z already =
      let at : suc r.frame.pc ≡ 2 = let a = h.here in omega (arith, a, z) in
      let i = inst op.Lea (own 20) middle.None (own 16) in
      let new = Address (InFrame r.frame.serial) (pos passing_place) in
      let old = linkage_there m F [] p.frame r.frame.words h.has 4 (omega arith) in
      let u = linkage_word m F [] p.frame r.frame.words h.has 5 (omega arith) in
      let s = store_word_over r.frame.words 16 old.0 new (pos 0) old.1 tt refl in
      let after = s.stored.after in
      by_entry i _ (ap (slice_get (object_of m).insts) z ∙ code_is.1.0)
      (ap (λ o. or_wrong type_check o >>= λ w. store x r (Own (pos 16)) new >>= λ m. Found (next m)) u.1
      ∙ ap (λ a. (a >>= λ ws. Found (in_frame ws)) >>= λ m. Found (next m)) s.is)
      (rests m (paces.place m) k number x w p (paces.place m r) k x (further after) (as_known k)
      (leaves already (entering_on k after 2 at (linkage_written m F [] p.frame r.frame.words h.has 16 (omega arith) (pos 0) s.stored)
      h.fresh)
      (some_of (slice_get after 4) new (word_there r.frame.words after 16 new s.is))) ws
      (let a = its_place (omega (arith, z)) in let c = further_place after 2 at (omega arith) in omega (arith, a, c, z)))
    where
      in_frame : List Word → Memory
      in_frame words = record { world = x; process = with_frames r (with_words r.frame words) r.below r.made }

  -- ---- to the function

  pub leaves_goes : pc ≡ 2 → k.loaded ≡ true → slice_get r.frame.words 4 ≡ Some (Address (InFrame r.frame.serial) (pos passing_place))
      → G (dis_step.step frames_limit (object_of m ∷ []) x r)
  leaves_goes z already answers =
      let i = inst op.Jmp operand.None middle.None (operand.Imm (pos base)) in
      let E = place (context m h.init F) 0 in
      let same : E ≡ base = omega arith in
      let target_is : target (object_of m) (operand.Imm (pos base)) ≡ Found base =
      subst (λ n. target (object_of m) (operand.Imm (pos n)) ≡ Found n) same (entry_is m proper k w x ws h.init F h.found) in
      let first = there F.code 0 (proper.functions h.init F h.found).some in
      let r' = with_frames r (at_pc r.frame base) r.below r.made in
      let function_is : p.frame.function ≡ h.init = ap (λ (g : machine.Frame). g.function) h.frame in
      let pc_is : p.frame.pc ≡ 0 = ap (λ (g : machine.Frame). g.pc) h.frame in
      let run : Running m k p r' 0 [] = record {
        loaded = already;
        number = h.number;
        frame = record {
          function = F;
          found = ap (slice_get m.functions) function_is ∙ h.found;
          inst = first.0;
          there = ap (slice_get F.code) pc_is ∙ first.1;
          here = sym same ∙ ap (λ n. place (context m n F) 0) (sym function_is) ∙ ap (place (context m p.frame.function F)) (sym pc_is)
              ∙ (let q : place (context m p.frame.function F) p.frame.pc ≡ 0 + place (context m p.frame.function F) p.frame.pc =
              omega arith in q);
          instance = h.instance;
          first = ap (λ (g : machine.Frame). g.instance) h.frame;
          has = subst (λ n. HasNumbers m F (Rattle.dis_objects.specs.Frames.made_at F.code n) p.frame r.frame.words) (sym pc_is) h.has;
        };
        stack = subst (λ gs. StackStands m F (at_pc r.frame base) gs r.below) (sym h.alone)
            (subst (λ rs. StackStands m F (at_pc r.frame base) [] rs) (sym h.alone_too) answers);
        frames = h.frames;
        fresh = h.fresh;
      } in
      by_entry i _ (ap (slice_get (object_of m).insts) z ∙ code_is.1.1.0)
      (ap (λ a. a >>= λ pc. Found (dis_step.jumps x r pc)) target_is)
      (rests m (paces.place m) k number x w p (paces.place m r) k x r' (as_known k) (begins run) ws
      (let a = its_place (omega (arith, z)) in let c = begin_place m proper k p r' run in omega (arith, a, c, z)))
