mod Failing
mod Laying
