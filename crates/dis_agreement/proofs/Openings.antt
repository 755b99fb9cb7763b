-- Both machines begin in states that agree: what the first begins with has one instance, and else texts.
use Rattle.std.proofs.Common.{◌≡◌, ℕ, zero, suc, Bool, true, false, List, [], ◌∷◌, ◌++◌, length, refl, sym, subst, ◌∙◌, if◌then◌else◌}
use Rattle.std.specs.Prelude.{Option, Some, None, pos, slice_get, ◌==◌, map}
use Rattle.inf_text.specs.Options as options
use Rattle.process_model.specs.Process.{Doing, Ready}
use Rattle.process_model.specs.Law.{begins_code}
use Rattle.process_model.specs.Machine as machine
use Rattle.process_model.specs.Naming.{total}
use Rattle.dis_file.specs.declared.object.Item.{Item}
use Rattle.dis_file.specs.declared.object.Object.{Object}
use Rattle.dis_file.specs.declared.types.TypeDesc.{TypeDesc}
use Rattle.system_model.specs.Values.{Value}
use Rattle.system_model.specs.World.{opening_world}
use Rattle.dis_meaning.specs.Words.{Word, Refer, stored, blank}
use Rattle.dis_meaning.specs.World as today
use Rattle.dis_meaning.specs.Process.{Process}
use Rattle.dis_meaning.specs.Opening as opening
use Rattle.dis_meaning.specs.Opening.{entered}
use Rattle.dis_memory.specs.Naming.{naming}
use Rattle.dis_memory.specs.Rules.{rules}
use Rattle.dis_memory.proofs.Growing.{found_same}
use Rattle.dis_counts.specs.Alike.{block_of, world_of}
use Rattle.dis_counts.specs.Counts.{begun}
use Rattle.dis_counts.specs.Opening.{opens}
use Rattle.dis_counts.proofs.Beginning.{begins_alike}
use Rattle.dis_counts.proofs.Exact.{opening_counts}
use Rattle.dis_agreement.specs.Agreement.{SameBlocks, OneInstance, WorldsAgree, WaitsInside}
use Rattle.dis_agreement.specs.Runs.{StandsInside, OpeningsAgree, ProgramsRunAlike}
use Rattle.dis_agreement.proofs.Blocks.{cut_worlds}
use Rattle.dis_agreement.proofs.Returning.{runs_return}

-- What holds of all that may come second.
behind : {S T : Type 0} (P : T → Type 0) (a : Option S) (f : S → Option T) → ((s : S) (t : T) → f s ≡ Some t → P t) → (t : T)
    → options.◌>>=◌ a f ≡ Some t → P t
behind P (Some s) f h t e = h s t e
behind P None f h t e = absurd cc

last_of : {T : Type 0} (P : T → Type 0) (s t : T) → P s → Some s ≡ Some t → P t
last_of P s t p e = let z : s ≡ t = cc in subst P z p

-- ---- texts alone

abbrev AllTexts : List today.Content → Type 0
AllTexts [] = Unit {0}
AllTexts (today.Text chars ∷ cs) = AllTexts cs
AllTexts (c ∷ cs) = ⊥

abbrev TextsIn : opening.Data → Type 0
TextsIn d = AllTexts d.texts

more_texts : (cs : List today.Content) (text : List ℕ) → AllTexts cs → AllTexts (cs ++ today.Text text ∷ [])
more_texts [] text a = tt
more_texts (today.Text chars ∷ cs) text a = more_texts cs text a
more_texts (today.Instance object words ∷ cs) text a = absurd a
more_texts (today.Sys names ∷ cs) text a = absurd a

item_texts : (d : opening.Data) (i : Item) (e : opening.Data) → TextsIn d → opening.with_item d i ≡ Some e → TextsIn e
item_texts d i e a f = go (i.kind == 3) (i.kind == 2) f
  where
    go : (text words : Bool)
        → (if text then options.◌>>=◌ (opening.characters i.content) (opening.with_text d i.offset)
        else (if words
        then options.◌>>=◌ (opening.with_numbers d.words i.offset i.content) (λ words. Some (record { words = words; texts = d.texts }))
        else None)) ≡ Some e
        → TextsIn e
    go true words f =
        behind TextsIn (opening.characters i.content) (opening.with_text d i.offset) (λ text e f.
        behind TextsIn (opening.if_found (stored d.words (pos i.offset) (Refer (Some (suc (length d.texts))))))
        (λ words. Some (record { words = words; texts = d.texts ++ today.Text text ∷ [] }))
        (λ words e f. last_of TextsIn (record { words = words; texts = d.texts ++ today.Text text ∷ [] }) e
        (more_texts d.texts text a) f) e f) e f
    go false true f =
        behind TextsIn (opening.with_numbers d.words i.offset i.content) (λ words. Some (record { words = words; texts = d.texts }))
        (λ words e f. last_of TextsIn (record { words = words; texts = d.texts }) e a f) e f
    go false false f = absurd cc

items_texts : (d : opening.Data) (is : List Item) (e : opening.Data) → TextsIn d → opening.with_items d is ≡ Some e → TextsIn e
items_texts d [] e a f = last_of TextsIn d e a f
items_texts d (i ∷ is) e a f = go (λ c b f. items_texts c is e b f) (opening.with_item d i) refl f
  where
    go : ((c : opening.Data) → TextsIn c → opening.with_items c is ≡ Some e → TextsIn e)
        → (o : Option opening.Data) → opening.with_item d i ≡ o → options.◌>>=◌ o (λ c. opening.with_items c is) ≡ Some e → TextsIn e
    go again None g f = absurd cc
    go again (Some c) g f = again c (item_texts d i c a g) f

no_instance : (cs : List today.Content) (n object : ℕ) (words : List Word) → AllTexts cs
    → slice_get cs n ≡ Some (today.Instance object words) → ⊥
no_instance [] n object words a e = absurd cc
no_instance (today.Text chars ∷ cs) zero object words a e = absurd cc
no_instance (today.Text chars ∷ cs) (suc n) object words a e = no_instance cs n object words a e
no_instance (today.Instance o ws ∷ cs) n object words a e = a
no_instance (today.Sys names ∷ cs) n object words a e = a

one_instance : (ws : List Word) (cs : List today.Content) → AllTexts cs → OneInstance (today.Instance 0 ws ∷ cs)
one_instance ws cs a zero object words e = refl
one_instance ws cs a (suc n) object words e = absurd (no_instance cs n object words a e)

-- ---- the opening

all_same : (cs : List today.Content) → SameBlocks cs (map (λ c. Some (block_of c)) cs)
all_same [] = tt
all_same (c ∷ cs) = (refl, all_same cs)

world_agrees : (x : today.World) → OneInstance x.blocks → WorldsAgree x (world_of x)
world_agrees x one = record { outside = refl; frames = refl; blocks = all_same x.blocks; instance = one }

-- What it begins with: one instance, and a process none of whose prints waits.
record Begins (m : opening.Opened) : Type 0 where
  one : OneInstance m.world.blocks
  quiet : m.first.printing ≡ None

abbrev machine_of : Object → opening.Data → TypeDesc → opening.Opened
machine_of o d frame_type = record {
  world = record { blocks = opening.opening_blocks d; frames = 1; outside = opening_world };
  first = entered o (blank frame_type);
}

begins : (o : Object) (m : opening.Opened) → opening.opened o ≡ Some m → Begins m
begins o m e = go (slice_get o.types 0) e
  where
    last : (d : opening.Data) → TextsIn d → (t : Option TypeDesc)
        → options.◌>>=◌ t (λ frame_type.
        Some (machine_of o d frame_type)) ≡ Some m
        → Begins m
    last d a None e = absurd cc
    last d a (Some t) e =
        last_of Begins (machine_of o d t) m (record { one = one_instance d.words d.texts a; quiet = refl }) e

    items : (type : TypeDesc) (o' : Option opening.Data) → opening.with_items (record { words = blank type; texts = [] }) o.items ≡ o'
        → options.◌>>=◌ o' (λ d. options.◌>>=◌ (slice_get o.types o.entry_type) (λ frame_type.
        Some (machine_of o d frame_type))) ≡ Some m
        → Begins m
    items type None f e = absurd cc
    items type (Some d) f e =
        last d (items_texts (record { words = blank type; texts = [] }) o.items d tt f) (slice_get o.types o.entry_type) e

    go : (t : Option TypeDesc)
        → options.◌>>=◌ t (λ type. options.◌>>=◌ (opening.with_items (record { words = blank type; texts = [] }) o.items) (λ d.
        options.◌>>=◌ (slice_get o.types o.entry_type) (λ frame_type.
        Some (machine_of o d frame_type)))) ≡ Some m
        → Begins m
    go None e = absurd cc
    go (Some type) e = items type (opening.with_items (record { words = blank type; texts = [] }) o.items) refl e

pub openings_agree : OpeningsAgree
openings_agree o m e =
    let b = begins o m e in
    record {
      processes = refl;
      waiters = refl;
      trace = refl;
      worlds = cut_worlds m.world (world_of m.world) (total naming (Ready m.first ∷ [])) (world_agrees m.world b.one);
      counts = opening_counts o (opens (world_of m.world) m.first) (begins_alike o m e);
      inside = λ pid d at. stands pid d b.quiet at;
    }
  where
    stands : (pid : ℕ) (d : Doing Process Value) → m.first.printing ≡ None → slice_get (Ready m.first ∷ []) pid ≡ Some d → StandsInside d
    stands zero d q at = last_of StandsInside (Ready m.first) d (subst (λ k. WaitsInside m.first.frame.instance k) (sym q) tt) at
    stands (suc pid) d q at = absurd cc

pub programs_run_alike : ProgramsRunAlike
programs_run_alike limit longest o others m n e f never journal last r =
    let same : opens (world_of m.world) m.first ≡ n = found_same _ n (sym (begins_alike o m e) ∙ f) in
    runs_return limit longest (o ∷ others) journal (begins_code m.world m.first) (begun (opens (world_of m.world) m.first)) last
    (openings_agree o m e) never
    (subst (λ n. machine.replay (rules limit (o ∷ others)) naming longest (begun n) journal ≡ Some last) (sym same) r)
