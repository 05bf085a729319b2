-- `extension::least_extension` meets its contract: where there is no chord, what the edges give. Assumes nothing.
use Rattle.branches.proofs.extension.least_extension.Goals as goal

pub returns-in-None : goal.returns-in-None
returns-in-None c given =
    let a = c.args in
    c.deepest_edge.ensures given a.low (rw c.in-None.is at (c.first_chord.ensures a.used.now given))
