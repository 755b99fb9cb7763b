-- Behind the cut with which a machine begins, its process is on its way to where both are ready.
use Rattle.std.proofs.Common.{◌≡◌, ℕ, List, [], Option, None, Some, sym, ap, ◌∙◌, subst, arith}
use Rattle.std.specs.Prelude.{slice_get}
use Rattle.process_model.specs.Follows.{Everyone, Only, Cuts, together}
use Rattle.process_model.specs.Naming.{Still}
use Rattle.process_model.proofs.Totals.{fun_ext}
use Rattle.limbo_types.specs.Types.{Nothing}
use Rattle.limbo_typed.specs.Typed as typed
use Rattle.limbo_meaning.specs.Process.{Shared}
use Rattle.limbo_meaning.specs.Runs.{first_world}
use Rattle.core_code.specs.Machine as code
use Rattle.dis_meaning.specs.Words.{Word, Refer, Found}
use Rattle.dis_meaning.specs.Process.{Process}
use Rattle.dis_memory.specs.Blocks.{World}
use Rattle.dis_memory.specs.Naming as machine
use Rattle.dis_counts.specs.Opening.{opens}
use Rattle.value_words.specs.Facts.{Facts}
use Rattle.value_roots.specs.Accounts.{Accounted, to_nothing, none}
use Rattle.value_code.specs.Objects.{init_of}
use Rattle.value_follows.specs.Stands.{Awaited, spare_of}
use Rattle.value_follows.specs.Sides.{sides, HoldTheSame}
use Rattle.value_follows.specs.Rooted.{PlaceAccounted}
use Rattle.value_follows.specs.Rows.{Base, AreThere}
use Rattle.value_follows.proofs.Kept.{stands_keep}
use Rattle.rows_calling.specs.Rows.{FunctionsBegin}
use Rattle.value_entry.specs.Entry.{first_core, Leads}
use Rattle.value_entry.proofs.Way.{machine_at, Begun, begun_stands, begun_later, way_begins}

module _ (m : typed.Module) (b : Base m) (begins : FunctionsBegin m) (n : ℕ) (f : typed.Function) (there : slice_get m.functions n ≡ Some f)
    (answer : f.of.answer ≡ Nothing) (init : init_of m ≡ Some n) (listed : List (List ℕ)) (k : Facts) (x : World) (words : List Word)
    (begun : Begun m n f there answer listed k x words) (worlds : (sides m).worlds k (first_world m listed) x)
    (live : AreThere m x (machine_at 0 words)) (still : Still (sides m).naming ((sides m).naming.names (first_core m f listed)) (first_world m listed)) where
  abbrev first : code.Process
  first = first_core m f listed

  abbrev world : Shared
  world = first_world m listed

  abbrev process : Process
  process = machine_at 0 words

  spare_accounted : PlaceAccounted m k 0 x (code.process_names first) process.frame (spare_of m k 0 x f)
  spare_accounted r e =
      let same : Found (Refer None) ≡ Found (Refer r) = sym begun.spare ∙ e in
      let none_it : None ≡ r = cc in
      subst (λ (o : Option ℕ). Accounted k 0 x.heap (code.process_names first) (Refer o)) none_it to_nothing

  holds : HoldTheSame m k 0 x first process
  holds =
      b.holds_on_way k 0 world x [] Awaited first process (begun_stands m n f there answer listed begins k x words 0 begun) worlds live
      (record { slots = λ s h. absurd h; spare = spare_accounted; made = none; answer = tt }) (λ s o h l. absurd h)

  abbrev nobody : ℕ → ℕ
  nobody o = 0

  abbrev names : ℕ → ℕ
  names = code.process_names first

  abbrev referred : ℕ → ℕ
  referred = machine.names process

  cut : Cuts (sides m) k world x (together names nobody) (together referred nobody)
  cut =
      let heaps = (stands_keep m).heaps in
      heaps.cuts k world x (together names nobody) (together referred nobody) worlds
      (heaps.held_wide k (Only 0) Everyone x (together names nobody) (together referred nobody) (λ j e. tt)
      (heaps.held_both k (Only 0) x names referred nobody nobody holds (heaps.held_none k (Only 0) x)))

  kept : (sides m).naming.trim (together names nobody) world ≡ world
  kept =
      ap (λ (g : ℕ → ℕ). (sides m).naming.trim g world) (fun_ext (λ o. let e : together names nobody o ≡ names o = omega arith in e)) ∙ still.kept

  pub leads : Leads m f listed (opens x process)
  leads =
      let left = cut.left 0 in
      record {
        known = cut.now;
        way = way_begins m n f there answer listed begins b init cut.now (opens x process).world words
            (begun_later m n f there answer listed begins k cut.now x (opens x process).world words left begun)
            (cut.held (Only 0) names referred (λ o l. omega (arith, l)) holds);
        worlds = subst (λ (w : Shared). (sides m).worlds cut.now w (opens x process).world) kept cut.worlds;
        still = still;
      }
