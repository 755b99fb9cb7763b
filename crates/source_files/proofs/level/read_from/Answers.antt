use Rattle.std.proofs.Common.{List, ap, refl, subst, ℕ, ◌∙◌, ◌≡◌}
use Rattle.std.specs.Prelude.{slice_get, Some}
use Rattle.std.proofs.lemmas.Result.{on_ok_weaker, IfErr-weaker}
use Rattle.std.proofs.lemmas.Option.{slice_get_read}
use Rattle.limbo_tree.specs.declared.source.Top.{Top}
use Rattle.source_files.specs.Reading.{targets}
use Rattle.std.proofs.Common.{List, ap}
use Rattle.std.specs.List.{Contains}
use Rattle.source_files.specs.Files.{AtPath}
use Rattle.source_files.specs.Reading.{IsNamedBy}
use Rattle.source_files.proofs.Readers.{at_path_weaker}
use Rattle.source_files.proofs.Depths.{reads_from}
use Rattle.source_files.proofs.level.read_from.Goals as goal

pub returns-clause-reads : goal.returns-clause-reads
returns-clause-reads g c =
    let t = c.index-text.result.now in
    let e : slice_get c.args.reader.now.texts.items c.args.index ≡ Some t =
    slice_get_read c.args.reader.now.texts.items _ c.args.index t refl c.requires c.index-text.ensures in
    let same : c.as_slice-2.result.now ≡ targets t.path t.tree.tops.items =
    c.as_slice-2.ensures.value ∙ c.in_ok-named.ensures ∙ ap (λ (z : List Top). targets t.path z) c.as_slice.ensures.value in
    on_ok_weaker c.read_all.result
    (λ k. reads_from (g.H.HostTree.told c.args.files.now) c.args.index c.args.depth t c.as_slice-2.result.now c.args.reader.now c.read_all.new.reader e same k)
    c.read_all.ensures.asks

pub returns-clause-own : goal.returns-clause-own
returns-clause-own g c =
    let t = c.index-text.result.now in
    let e : slice_get c.args.reader.now.texts.items c.args.index ≡ Some t =
    slice_get_read c.args.reader.now.texts.items _ c.args.index t refl c.requires c.index-text.ensures in
    let same : c.as_slice-2.result.now ≡ targets t.path t.tree.tops.items =
    c.as_slice-2.ensures.value ∙ c.in_ok-named.ensures ∙ ap (λ (z : List Top). targets t.path z) c.as_slice.ensures.value in
    IfErr-weaker c.read_all.result (AtPath (Contains c.as_slice-2.result.now)) (AtPath (IsNamedBy c.args.reader.now c.args.index))
    (λ f i. at_path_weaker (Contains c.as_slice-2.result.now) (IsNamedBy c.args.reader.now c.args.index) f
    (λ q k. (t, e, subst (λ (z : List (List ℕ)). Contains z q) same k)) i)
    c.read_all.ensures.own
