use Rattle.std.proofs.Common.{◌≡◌, ◌<◌, ◌+◌, ◌-◌, length, get_or, ap, ap₂, sym, subst, ◌∙◌, arith}
use Rattle.std.proofs.lemmas.List.{get_or_read}
use Rattle.fpl_model.specs.declared.expr.Expr.TheVariants.{Zero, Br}
use Rattle.fpl_table.specs.Plain.{plain_basis}
use Rattle.fpl_forms.specs.Laws.{IsForm}
use Rattle.fpl_facts.specs.Axioms.{HasParityIn, swap_number}
use Rattle.fpl_facts.specs.Facts.{IsFact}
use Rattle.fpl_facts.proofs.NextAxioms.{swap_below}
use Rattle.fpl_table_facts.proofs.Grown.{grows_form}
use Rattle.fpl_table_facts.proofs.Levels.{basis_length, basis_small, atom_parity, multiplied_form}
use Rattle.fpl_table_facts.proofs.products.exchanged.Goals as goal

pub overflow_add-i : goal.overflow_add-i
overflow_add-i c = let e = basis_small c.requires.known in omega (arith, e, c.requires.first)

pub basis-requires : goal.basis-requires
basis-requires c = let e = basis_length c.requires.known in (omega arith, omega (arith, e, c.requires.first))

pub basis-requires-2 : goal.basis-requires-2
basis-requires-2 c = let e = basis_length c.requires.known in (omega arith, omega (arith, e, c.requires.first, c.requires.second))

pub swapped-requires-clause-first : goal.swapped-requires-clause-first
swapped-requires-clause-first c =
    let k = c.args.known.now in
    let i = c.args.i in
    let back : i + 1 - 1 ≡ i = omega arith in
    let at : c.index-left.result.now ≡ get_or k.basis.items i Zero = get_or_read k.basis.items i _ c.requires.first c.index-left.ensures Zero in
    subst (λ e. HasParityIn c.args.ledger.now.presentation e c.basis.result.parity) (sym at)
    (atom_parity c.requires.known i c.requires.first c.basis.result (c.basis.ensures.value ∙ ap (plain_basis k.table) back))

pub swapped-requires-clause-second : goal.swapped-requires-clause-second
swapped-requires-clause-second c =
    let k = c.args.known.now in
    let j = c.args.j in
    let back : j + 1 - 1 ≡ j = omega arith in
    let lt : j < length k.basis.items = omega (arith, c.requires.first, c.requires.second) in
    let at : c.index-right.result.now ≡ get_or k.basis.items j Zero = get_or_read k.basis.items j _ lt c.index-right.ensures Zero in
    subst (λ e. HasParityIn c.args.ledger.now.presentation e c.basis-2.result.parity) (sym at)
    (atom_parity c.requires.known j lt c.basis-2.result (c.basis-2.ensures.value ∙ ap (plain_basis k.table) back))

pub returns-clause-form : goal.returns-clause-form
returns-clause-form c =
    let k = c.args.known.now in
    let i = c.args.i in
    let j = c.args.j in
    let L = c.args.ledger.now in
    let f = c.in_ok-fact in
    let lt : j < length k.basis.items = omega (arith, c.requires.first, c.requires.second) in
    let left : c.index-left.result.now ≡ get_or k.basis.items i Zero = get_or_read k.basis.items i _ c.requires.first c.index-left.ensures Zero in
    let right : c.index-right.result.now ≡ get_or k.basis.items j Zero = get_or_read k.basis.items j _ lt c.index-right.ensures Zero in
    let s = c.basis.result.parity in
    let t = c.basis-2.result.parity in
    record {
      fact = subst (λ atoms. IsFact c.swapped.new.ledger atoms (Br (get_or k.basis.items i Zero) (get_or k.basis.items j Zero)) f.fact) c.deref.ensures.value
          (subst (λ e. IsFact c.swapped.new.ledger c.deref.result.now e f.fact) (ap₂ Br left right) f.ensures.fact);
      form = grows_form f.ensures.grows (length k.basis.items) f.fact.terms.items
          (subst (IsForm L.prime (length k.basis.items)) (sym f.ensures.terms)
          (multiplied_form L.prime (length k.basis.items) (swap_number L.prime s t) c.in_ok-turned.turned.terms.items c.sound.ensures.listed
          (swap_below L.prime c.sound.ensures.listed s t) c.in_ok-turned.ensures.form));
    }
