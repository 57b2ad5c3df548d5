pub mod Machines
pub mod Sets
pub mod Firsts
