use Rattle.dis_steps.proofs.Others.{other_form}
use Rattle.dis_steps.proofs.forms.form_of.Goals as goal

pub returns-in_default : goal.returns-in_default
returns-in_default c =
    other_form c.args.op c.by_tables.result c.by_tables.ensures
    (record {
      not-Movw = c.in_default.not-Movw;
      not-Movp = c.in_default.not-Movp;
      not-Movm = c.in_default.not-Movm;
      not-Movmp = c.in_default.not-Movmp;
      not-Lea = c.in_default.not-Lea;
      not-New = c.in_default.not-New;
      not-Newz = c.in_default.not-Newz;
      not-Newa = c.in_default.not-Newa;
      not-Newaz = c.in_default.not-Newaz;
      not-Indx = c.in_default.not-Indx;
      not-Indb = c.in_default.not-Indb;
      not-Indw = c.in_default.not-Indw;
      not-Indl = c.in_default.not-Indl;
      not-Lena = c.in_default.not-Lena;
      not-Slicea = c.in_default.not-Slicea;
      not-Slicela = c.in_default.not-Slicela;
      not-Addc = c.in_default.not-Addc;
      not-Lenc = c.in_default.not-Lenc;
      not-Indc = c.in_default.not-Indc;
      not-Insc = c.in_default.not-Insc;
      not-Slicec = c.in_default.not-Slicec;
      not-Cvtwc = c.in_default.not-Cvtwc;
      not-Cvtlc = c.in_default.not-Cvtlc;
      not-Cvtcw = c.in_default.not-Cvtcw;
      not-Cvtcl = c.in_default.not-Cvtcl;
      not-Cvtca = c.in_default.not-Cvtca;
      not-Cvtac = c.in_default.not-Cvtac;
      not-Consb = c.in_default.not-Consb;
      not-Consw = c.in_default.not-Consw;
      not-Consl = c.in_default.not-Consl;
      not-Consp = c.in_default.not-Consp;
      not-Consm = c.in_default.not-Consm;
      not-Consmp = c.in_default.not-Consmp;
      not-Headb = c.in_default.not-Headb;
      not-Headw = c.in_default.not-Headw;
      not-Headl = c.in_default.not-Headl;
      not-Headp = c.in_default.not-Headp;
      not-Headm = c.in_default.not-Headm;
      not-Headmp = c.in_default.not-Headmp;
      not-Tail = c.in_default.not-Tail;
      not-Lenl = c.in_default.not-Lenl;
      not-Newcb = c.in_default.not-Newcb;
      not-Newcw = c.in_default.not-Newcw;
      not-Newcl = c.in_default.not-Newcl;
      not-Newcp = c.in_default.not-Newcp;
      not-Newcm = c.in_default.not-Newcm;
      not-Newcmp = c.in_default.not-Newcmp;
      not-Jmp = c.in_default.not-Jmp;
      not-Frame = c.in_default.not-Frame;
      not-Call = c.in_default.not-Call;
      not-Ret = c.in_default.not-Ret;
      not-Load = c.in_default.not-Load;
      not-Mcall = c.in_default.not-Mcall;
    })
