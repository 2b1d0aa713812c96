use Rattle.linear_refuter.proofs.seeking.+short_search.Given as goal

abbrev pub decreases-short_search : goal.decreases-short_search
decreases-short_search l = l.left
