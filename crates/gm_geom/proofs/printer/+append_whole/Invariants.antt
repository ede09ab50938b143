use Rattle.gm_geom.proofs.printer.+append_whole.Given as goal

abbrev pub decreases-append_whole : goal.decreases-append_whole
decreases-append_whole l = l.whole
