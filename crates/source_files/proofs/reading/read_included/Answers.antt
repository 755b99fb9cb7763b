use Rattle.std.proofs.Common.{◌≡◌, ◌∙◌, List, Option, ap, subst}
use Rattle.std.proofs.lemmas.Result.{err_from_is_err_and}
use Rattle.std.specs.Option.{IfSome}
use Rattle.inf_ports.specs.Outside.{Told}
use Rattle.limbo_tree.specs.declared.source.Top.{Top}
use Rattle.source_files.specs.declared.fault.FilesFault.{FilesFault}
use Rattle.source_files.specs.Files.{AtPath, IsBlamed}
use Rattle.source_files.specs.Reading.{targets, IsFirst, IsReachable}
use Rattle.source_files.specs.Levels.{ReadsTo}
use Rattle.source_files.proofs.Readers.{no_text}
use Rattle.source_files.proofs.Depths.{blamed_refusal, level_whole, level_read, level_refused, level_first, first_refused, source_read, all_read}
use Rattle.source_files.proofs.reading.read_included.Goals as goal

pub returns-in_err-read_all-clause-own : goal.returns-in_err-read_all-clause-own
returns-in_err-read_all-clause-own g c =
    let told = g.H.HostTree.told c.args.files.now in
    let named : c.as_slice-2.result.now ≡ targets c.args.path.now c.args.source.now.tops.items =
    c.as_slice-2.ensures.value ∙ c.in_ok-named.ensures ∙ ap (λ (z : List Top). targets c.args.path.now z) c.as_slice.ensures.value in
    let own = first_refused told c.args.path.now c.args.source.now.tops.items c.as_slice-2.result.now c.in_err-read_all.field-0.0 named
    c.in_err-read_all.ensures.own in
    let p = err_from_is_err_and c.from_residual-in_err-read_all.result c.from_residual-in_err-read_all.ensures.1 in
    rw (p.1, p.2) own

pub returns-in_err-read_levels-clause-own : goal.returns-in_err-read_levels-clause-own
returns-in_err-read_levels-clause-own g c =
    let told = g.H.HostTree.told c.args.files.now in
    let named : c.as_slice-2.result.now ≡ targets c.args.path.now c.args.source.now.tops.items =
    c.as_slice-2.ensures.value ∙ c.in_ok-named.ensures ∙ ap (λ (z : List Top). targets c.args.path.now z) c.as_slice.ensures.value in
    let m = source_read told c.args.path.now c.args.source.now.tops.items c.as_slice-2.result.now c.new.result c.new-2.result c.new-3.result
    c.read_all.new.reader c.new.ensures.items c.new-2.ensures.items c.new-3.ensures.empty named c.in_ok-read_all.ensures.asks in
    let e = c.in_err-read_levels.field-0.0 in
    let a : ReadsTo told c.read_all.new.reader e =
    subst (λ (z : Told). ReadsTo z c.read_all.new.reader e) c.in_ok-read_all.ensures.kept c.in_err-read_levels.ensures.own in
    let own : AtPath (IsReachable told c.args.path.now c.args.source.now.tops.items) e = a c.args.path.now c.args.source.now.tops.items m in
    let p = err_from_is_err_and c.from_residual-in_err-read_levels.result c.from_residual-in_err-read_levels.ensures.1 in
    rw (p.1, p.2) own

pub returns-in_err-read_all-clause-first : goal.returns-in_err-read_all-clause-first
returns-in_err-read_all-clause-first g c =
    let told = g.H.HostTree.told c.args.files.now in
    let own = no_text (IsFirst told c.args.path.now c.args.source.now.tops.items) c.in_err-read_all.field-0.0 c.in_err-read_all.ensures.ends in
    let p = err_from_is_err_and c.from_residual-in_err-read_all.result c.from_residual-in_err-read_all.ensures.1 in
    rw (p.1, p.2) own

pub returns-in_err-read_levels-clause-first : goal.returns-in_err-read_levels-clause-first
returns-in_err-read_levels-clause-first g c =
    let told = g.H.HostTree.told c.args.files.now in
    let own = no_text (IsFirst told c.args.path.now c.args.source.now.tops.items) c.in_err-read_levels.field-0.0 c.in_err-read_levels.ensures.ends in
    let p = err_from_is_err_and c.from_residual-in_err-read_levels.result c.from_residual-in_err-read_levels.ensures.1 in
    rw (p.1, p.2) own

pub returns-in-Some-clause-own : goal.returns-in-Some-clause-own
returns-in-Some-clause-own g c =
    let told = g.H.HostTree.told c.args.files.now in
    let new = c.read_levels.new.reader in
    let named : c.as_slice-2.result.now ≡ targets c.args.path.now c.args.source.now.tops.items =
    c.as_slice-2.ensures.value ∙ c.in_ok-named.ensures ∙ ap (λ (z : List Top). targets c.args.path.now z) c.as_slice.ensures.value in
    let m = source_read told c.args.path.now c.args.source.now.tops.items c.as_slice-2.result.now c.new.result c.new-2.result c.new-3.result
    c.read_all.new.reader c.new.ensures.items c.new-2.ensures.items c.new-3.ensures.empty named c.in_ok-read_all.ensures.asks in
    let l = all_read told (g.H.HostTree.told c.read_all.new.files) c.args.path.now c.args.source.now.tops.items c.read_all.new.reader new m
    c.in_ok-read_all.ensures.kept c.in_ok-read_levels.ensures.reads in
    level_refused told c.args.path.now c.args.source.now.tops.items l.0 new c.in-Some.fault l.1 c.in-Some.is

pub returns-in-Some-clause-first : goal.returns-in-Some-clause-first
returns-in-Some-clause-first g c =
    let told = g.H.HostTree.told c.args.files.now in
    let new = c.read_levels.new.reader in
    let named : c.as_slice-2.result.now ≡ targets c.args.path.now c.args.source.now.tops.items =
    c.as_slice-2.ensures.value ∙ c.in_ok-named.ensures ∙ ap (λ (z : List Top). targets c.args.path.now z) c.as_slice.ensures.value in
    let m = source_read told c.args.path.now c.args.source.now.tops.items c.as_slice-2.result.now c.new.result c.new-2.result c.new-3.result
    c.read_all.new.reader c.new.ensures.items c.new-2.ensures.items c.new-3.ensures.empty named c.in_ok-read_all.ensures.asks in
    let l = all_read told (g.H.HostTree.told c.read_all.new.files) c.args.path.now c.args.source.now.tops.items c.read_all.new.reader new m
    c.in_ok-read_all.ensures.kept c.in_ok-read_levels.ensures.reads in
    level_first told c.args.path.now c.args.source.now.tops.items l.0 new c.in-Some.fault l.1 c.in-Some.is

pub returns-in-Some-clause-refused : goal.returns-in-Some-clause-refused
returns-in-Some-clause-refused g c =
    let told = g.H.HostTree.told c.args.files.now in
    let new = c.read_levels.new.reader in
    let named : c.as_slice-2.result.now ≡ targets c.args.path.now c.args.source.now.tops.items =
    c.as_slice-2.ensures.value ∙ c.in_ok-named.ensures ∙ ap (λ (z : List Top). targets c.args.path.now z) c.as_slice.ensures.value in
    let m = source_read told c.args.path.now c.args.source.now.tops.items c.as_slice-2.result.now c.new.result c.new-2.result c.new-3.result
    c.read_all.new.reader c.new.ensures.items c.new-2.ensures.items c.new-3.ensures.empty named c.in_ok-read_all.ensures.asks in
    let l = all_read told (g.H.HostTree.told c.read_all.new.files) c.args.path.now c.args.source.now.tops.items c.read_all.new.reader new m
    c.in_ok-read_all.ensures.kept c.in_ok-read_levels.ensures.reads in
    let b = l.1.reading.blamed in
    blamed_refusal told (g.H.HostTree.faults c.args.files.now) (g.H.HostTree.faults c.read_levels.new.files) c.in-Some.fault
    (subst (λ (z : Option FilesFault). IfSome z (λ e. IsBlamed told e)) c.in-Some.is b)

pub returns-clause-named : goal.returns-clause-named
returns-clause-named g c =
    let told = g.H.HostTree.told c.args.files.now in
    let new = c.read_levels.new.reader in
    let named : c.as_slice-2.result.now ≡ targets c.args.path.now c.args.source.now.tops.items =
    c.as_slice-2.ensures.value ∙ c.in_ok-named.ensures ∙ ap (λ (z : List Top). targets c.args.path.now z) c.as_slice.ensures.value in
    let m = source_read told c.args.path.now c.args.source.now.tops.items c.as_slice-2.result.now c.new.result c.new-2.result c.new-3.result
    c.read_all.new.reader c.new.ensures.items c.new-2.ensures.items c.new-3.ensures.empty named c.in_ok-read_all.ensures.asks in
    let l = all_read told (g.H.HostTree.told c.read_all.new.files) c.args.path.now c.args.source.now.tops.items c.read_all.new.reader new m
    c.in_ok-read_all.ensures.kept c.in_ok-read_levels.ensures.reads in
    level_read told c.args.path.now c.args.source.now.tops.items l.0 new l.1

pub returns-clause-whole : goal.returns-clause-whole
returns-clause-whole g c =
    let told = g.H.HostTree.told c.args.files.now in
    let new = c.read_levels.new.reader in
    let named : c.as_slice-2.result.now ≡ targets c.args.path.now c.args.source.now.tops.items =
    c.as_slice-2.ensures.value ∙ c.in_ok-named.ensures ∙ ap (λ (z : List Top). targets c.args.path.now z) c.as_slice.ensures.value in
    let m = source_read told c.args.path.now c.args.source.now.tops.items c.as_slice-2.result.now c.new.result c.new-2.result c.new-3.result
    c.read_all.new.reader c.new.ensures.items c.new-2.ensures.items c.new-3.ensures.empty named c.in_ok-read_all.ensures.asks in
    let l = all_read told (g.H.HostTree.told c.read_all.new.files) c.args.path.now c.args.source.now.tops.items c.read_all.new.reader new m
    c.in_ok-read_all.ensures.kept c.in_ok-read_levels.ensures.reads in
    level_whole told c.args.path.now c.args.source.now.tops.items l.0 new l.1 c.in-None.is

pub returns-clause-once : goal.returns-clause-once
returns-clause-once g c =
    let told = g.H.HostTree.told c.args.files.now in
    let new = c.read_levels.new.reader in
    let named : c.as_slice-2.result.now ≡ targets c.args.path.now c.args.source.now.tops.items =
    c.as_slice-2.ensures.value ∙ c.in_ok-named.ensures ∙ ap (λ (z : List Top). targets c.args.path.now z) c.as_slice.ensures.value in
    let m = source_read told c.args.path.now c.args.source.now.tops.items c.as_slice-2.result.now c.new.result c.new-2.result c.new-3.result
    c.read_all.new.reader c.new.ensures.items c.new-2.ensures.items c.new-3.ensures.empty named c.in_ok-read_all.ensures.asks in
    let l = all_read told (g.H.HostTree.told c.read_all.new.files) c.args.path.now c.args.source.now.tops.items c.read_all.new.reader new m
    c.in_ok-read_all.ensures.kept c.in_ok-read_levels.ensures.reads in
    l.1.reading.once
