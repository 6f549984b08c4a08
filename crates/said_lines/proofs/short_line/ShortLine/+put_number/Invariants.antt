use Rattle.said_lines.proofs.short_line.ShortLine.+put_number.Given as goal

abbrev pub decreases-put_number : goal.decreases-put_number
decreases-put_number l = l.number
