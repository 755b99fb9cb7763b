use Rattle.dis_format.proofs.Shortest.{valid}
use Rattle.dis_writing.proofs.Whole.{is_written, all_fit, fitting, misfit, refused}
use Rattle.dis_writing.proofs.write_object.Goals as goal

pub returns-clause-written : goal.returns-clause-written
returns-clause-written c = is_written (λ v. v.items) c.args.o.now c.object.result c.object.ensures

pub returns-clause-fits : goal.returns-clause-fits
returns-clause-fits c = all_fit (λ v. v.items) c.args.o.now c.object.result c.object.ensures

pub returns-clause-fitting : goal.returns-clause-fitting
returns-clause-fitting c = λ fit. fitting (λ v. v.items) c.args.o.now c.object.result fit c.object.ensures

pub returns-clause-valid : goal.returns-clause-valid
returns-clause-valid c =
    λ is. fitting (λ v. v.items) c.args.o.now c.object.result (valid c.args.o.now is) c.object.ensures

pub returns-clause-misfit : goal.returns-clause-misfit
returns-clause-misfit c = misfit (λ v. v.items) c.args.o.now c.object.result c.object.ensures

pub returns-clause-refused : goal.returns-clause-refused
returns-clause-refused c = λ at m. refused (λ v. v.items) c.args.o.now c.object.result at m c.object.ensures
