use Rattle.std.proofs.Common.{Err, subst, sym, ap, ◌∙◌, inr}
use Rattle.limbo_parser.specs.declared.tree.ParseFault.{ParseFault}
use Rattle.inferno_top.specs.declared.reading.ReadFault.{ReadFault}
use Rattle.inferno_top.specs.Reading.{IsReadFault}
use Rattle.inferno_top.proofs.Sources.{unlexed_is, lexed_of, unparsed_is}
use Rattle.inferno_top.proofs.reading.read_tree.Goals as goal

pub returns-in-Err : goal.returns-in-Err
returns-in-Err c = record {
  found = tt;
  refused = subst (λ (f : ReadFault). IsReadFault c.args.source.now f) (sym c.unlexed.ensures) (unlexed_is c.args.source.now
      c.in-Err.fault c.in-Err.ensures.refused c.in-Err.ensures.none);
}

pub returns-clause-refused : goal.returns-clause-refused
returns-clause-refused c =
    let lexed = lexed_of c.args.source.now c.in-Ok.tokens.items c.as_slice-tokens.result.now c.as_slice-tokens.ensures.value
    c.in-Ok.ensures.found c.in-Ok.ensures.only in
    subst (λ (f : ReadFault). IsReadFault c.args.source.now f) (sym c.unparsed.ensures)
    (unparsed_is c.args.source.now c.as_slice-tokens.result.now c.in-Err-parse.fault lexed c.in-Err-parse.ensures.refused
    (λ token e. c.parse.ensures.syntax token (c.in-Err-parse.is ∙ ap (λ (f : ParseFault). Err f) e))
    (λ token e.
    let is = c.in-Err-parse.is ∙ ap (λ (f : ParseFault). Err f) e in
    (c.parse.ensures.too_deep token is, c.parse.ensures.within token (inr is))))
