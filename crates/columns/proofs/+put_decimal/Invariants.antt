use Rattle.columns.proofs.+put_decimal.Given as goal

-- the number falls to its tenth
abbrev pub decreases-put_decimal : goal.decreases-put_decimal
decreases-put_decimal l = l.n
