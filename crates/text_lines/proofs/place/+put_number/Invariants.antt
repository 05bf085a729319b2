-- `place::put_number` meets its contract. The measure is the number itself. Assumes nothing.
use Rattle.text_lines.proofs.place.+put_number.Given as goal

abbrev pub decreases-put_number : goal.decreases-put_number
decreases-put_number l = l.n
