-- What a file says of a tunnel is spelled as the tunnel is.
use Rattle.journal_files.proofs.Untold.{row_fits, row_written}
use Rattle.journal_files.proofs.writing.put_tunnel_row.Goals as goal

pub returns-clause-ok : goal.returns-clause-ok
returns-clause-ok c = row_written c.put_tunnel.result c.args.out.now.items c.put.new.out.items c.put_tunnel.new.out.items c.args.row.now c.in_ok-put.ensures.ok c.put_tunnel.ensures.ok

pub returns-clause-fits : goal.returns-clause-fits
returns-clause-fits c = row_fits c.put_tunnel.result c.args.row.now c.in_ok-put.ensures.fits c.put_tunnel.ensures.fits
