-- How `Text::push_decimal` ends: it calls itself at a tenth. Assumes nothing.
use Rattle.text.proofs.Text.+push_decimal.Given as goal

abbrev pub decreases-push_decimal : goal.decreases-push_decimal
decreases-push_decimal l = l.n
