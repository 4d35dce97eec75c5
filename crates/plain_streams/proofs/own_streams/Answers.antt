use Rattle.plain_streams.proofs.Heads.{have_heads, heads_are_of, own_streams_give, own_streams_pass}
use Rattle.plain_streams.proofs.own_streams.Goals as goal

pub returns-clause-heads : goal.returns-clause-heads
returns-clause-heads c = have_heads

pub returns-clause-holds : goal.returns-clause-holds
returns-clause-holds c = heads_are_of

pub returns-clause-give : goal.returns-clause-give
returns-clause-give c = own_streams_give

pub returns-clause-pass : goal.returns-clause-pass
returns-clause-pass c = own_streams_pass
