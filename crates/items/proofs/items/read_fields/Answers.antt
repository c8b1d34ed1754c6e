-- Edge and label are read where their bits stand.
use Rattle.std.proofs.Common.{rules, arith}
use Rattle.fields.proofs.Extents.{read_if_is}
use Rattle.items.specs.Items.{edge_field, label_field, fields_at}
use Rattle.items.proofs.items.read_fields.Goals as goal

pub returns-in_err-edge : goal.returns-in_err-edge
unfolding fields_at
returns-in_err-edge c =
    let edge = read_if_is _ _ (edge_field c.args.sheet.now c.args.n) (λ r p. search rules) c.read_if.ensures in
    grind arith

pub returns-in_err-label : goal.returns-in_err-label
unfolding fields_at
returns-in_err-label c =
    let edge = read_if_is _ _ (edge_field c.args.sheet.now c.args.n) (λ r p. search rules) c.read_if.ensures in
    let label = read_if_is _ _ (label_field c.args.sheet.now) (λ r p. search rules) c.read_if-2.ensures in
    grind arith

pub returns : goal.returns
unfolding fields_at
returns c =
    let edge = read_if_is _ _ (edge_field c.args.sheet.now c.args.n) (λ r p. search rules) c.read_if.ensures in
    let label = read_if_is _ _ (label_field c.args.sheet.now) (λ r p. search rules) c.read_if-2.ensures in
    grind arith
