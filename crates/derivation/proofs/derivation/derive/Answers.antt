-- From no facts to those of each variable and itself, the stated ones, and all.
use Rattle.derivation.proofs.Derivations.{may_start, may_insert, may_run, is_derived}
use Rattle.derivation.proofs.derivation.derive.Goals as goal

pub insert_reflexive-requires : goal.insert_reflexive-requires
insert_reflexive-requires c =
    may_start c.args.growth.now c.requires.square c.clear.ensures c.clear-2.ensures c.requires.lawful

pub insert_pairs-requires : goal.insert_pairs-requires
insert_pairs-requires c =
    may_insert c.args.growth.now c.requires.square c.clear.ensures c.clear-2.ensures c.requires.lawful
    c.insert_reflexive.ensures.added c.insert_reflexive.ensures.same.n

pub run-requires : goal.run-requires
run-requires c =
    may_run c.args.growth.now c.requires.square c.clear.ensures c.clear-2.ensures c.requires.lawful
    c.insert_reflexive.ensures.added c.insert_reflexive.ensures.same.n c.insert_pairs.ensures.steps
    c.insert_pairs.ensures.same.n

pub returns-clause-derived_from : goal.returns-clause-derived_from
returns-clause-derived_from c =
    is_derived c.args.growth.now c.requires.square c.clear.ensures c.clear-2.ensures c.requires.lawful
    c.insert_reflexive.ensures.added c.insert_reflexive.ensures.same.n c.insert_pairs.ensures.steps
    c.insert_pairs.ensures.same.n c.run.ensures.settled
