-- The two ends of a link.
use Rattle.wrp_base.specs.declared.link.Role.{Role}
use Rattle.wrp_base.specs.declared.link.Role.TheVariants.{Master, Slave}

-- the role of the port at the other end of a link
abbrev pub other_of : Role → Role
other_of Master = Slave
other_of Slave = Master
