use Rattle.fpl_reply.proofs.line.put_line.Goals as goal

pub returns-in-BadSection-clause-whole : goal.returns-in-BadSection-clause-whole
returns-in-BadSection-clause-whole g c = rw c.in-BadSection.is c.put_bad_section.ensures.whole

pub returns-in-Limit-clause-whole : goal.returns-in-Limit-clause-whole
returns-in-Limit-clause-whole g c = rw c.in-Limit.is c.put_limit.ensures.whole

pub returns-in-Overflow-clause-whole : goal.returns-in-Overflow-clause-whole
returns-in-Overflow-clause-whole g c = rw c.in-Overflow.is c.put_overflow.ensures.whole

pub returns-in-ReadFault-clause-whole : goal.returns-in-ReadFault-clause-whole
returns-in-ReadFault-clause-whole g c = rw c.in-ReadFault.is c.write_whole-in-ReadFault.ensures.whole

pub returns-in-ReadFault-clause-part : goal.returns-in-ReadFault-clause-part
returns-in-ReadFault-clause-part g c = rw c.in-ReadFault.is c.write_whole-in-ReadFault.ensures.part

pub returns-in-WriteFault-clause-whole : goal.returns-in-WriteFault-clause-whole
returns-in-WriteFault-clause-whole g c = rw c.in-WriteFault.is c.write_whole-in-WriteFault.ensures.whole
