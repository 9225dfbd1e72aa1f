pub mod Joiners
