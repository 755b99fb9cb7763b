use Rattle.std.proofs.Common.{◌≡◌, ◌++◌, ap, sym, ◌∙◌, drop, map, List, length, arith}
use Rattle.std.proofs.lemmas.List.{append-nil, drop_all}
use Rattle.limbo_tree.specs.declared.source.Top.{Top}
use Rattle.limbo_includes.specs.declared.included.Included.{Included}
use Rattle.limbo_includes.specs.declared.links.Link.{Link}
use Rattle.limbo_includes.specs.Links.{links_from, links_in, page_of}
use Rattle.limbo_includes.specs.View.{given}
use Rattle.limbo_includes.proofs.Levels.{links_whole}
use Rattle.limbo_includes.proofs.links.all_links.Goals as goal

pub returns : goal.returns
returns c =
    let s = c.args.shelf.now.texts.now in
    let d : drop c.loop-number.number s ≡ _ = drop_all c.loop-number.number s (omega arith) in
    let e : c.loop-number.links.items ≡ links_from s 0 (map page_of s) =
    sym (append-nil c.loop-number.links.items)
    ∙ ap (λ (z : List Included). c.loop-number.links.items ++ links_from s c.loop-number.number (map page_of z)) (sym d)
    ∙ c.loop-number.invariant in
    let g = given c.args.path.now c.args.source.now s in
    c.in_ok-push_links-2.ensures
    ∙ ap (λ (z : List Top). c.loop-number.links.items ++ links_in s (length s) c.args.path.now z) c.deref-2.ensures.value
    ∙ ap (λ (z : List Link). z ++ links_in s (length s) c.args.path.now c.args.source.now.tops.items) e
    ∙ links_whole g
